use Rattle.std.proofs.Common.{ap, ◌∙◌, sym}
use Rattle.std.specs.Str.{bytes_eq}
use Rattle.wires.specs.FakeShelf.{FileInMemory}
use Rattle.wires.proofs.FakeShelf.{place_here, look_more}
use Rattle.wires.proofs.fake_shelf.place.Goals as goal

pub returns-then-has_name-clause-found : goal.returns-then-has_name-clause-found
returns-then-has_name-clause-found c = (
  place_here c.args.files.now c.args.name.now c.loop-i.i c.index-files-i.result c.loop-i.invariant c.loop-i-test.true
      (ap (λ (f : FileInMemory). bytes_eq f.name c.args.name.now) (sym c.index-files-i.is) ∙ (sym c.has_name.ensures ∙ c.if-has_name.true)),
  c.loop-i-test.true,
)

pub loop-i-preserved : goal.loop-i-preserved
loop-i-preserved c =
    look_more c.args.files.now c.args.name.now c.loop-i.i c.index-files-i.result c.loop-i.invariant c.loop-i-test.true
    (ap (λ (f : FileInMemory). bytes_eq f.name c.args.name.now) (sym c.index-files-i.is) ∙ (sym c.has_name.ensures ∙ c.if-has_name.false))
