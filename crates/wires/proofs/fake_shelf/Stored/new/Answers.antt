use Rattle.std.proofs.Common.{List, All, subst, sym, ◌≡◌}
use Rattle.wires.specs.FakeShelf.{FileInMemory}
use Rattle.wires.proofs.FakeShelf.{all_stored}
use Rattle.wires.proofs.fake_shelf.Stored.new.Goals as goal

pub invariant_of-result : goal.invariant_of-result
invariant_of-result c = (
  subst (λ (fs : List FileInMemory). All (λ (f : FileInMemory). f.most ≡ c.args.most) fs) (sym c.in_ok-files.ensures.0) (all_stored c.args.files.now c.args.most),
  c.in_ok-new.ensures,
  λ s. c.in_ok-files.ensures.1,
)
