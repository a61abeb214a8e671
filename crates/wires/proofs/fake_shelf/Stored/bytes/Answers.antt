use Rattle.std.proofs.Common.{List, subst, ap, ◌≡◌}
use Rattle.wires.specs.FakeShelf.{FileInMemory, FilesInMemory, IsPlace, bytes_of, look}
use Rattle.std.proofs.Common.{IsTrue, is_some}
use Rattle.wires.proofs.FakeShelf.{at_place, bytes_at}
use Rattle.wires.proofs.fake_shelf.Stored.bytes.Goals as goal

pub returns-in-Some : goal.returns-in-Some
returns-in-Some c =
    let p = subst (λ (fs : List FileInMemory). IsPlace fs c.args.name.now c.in-Some.i) c.deref.ensures.value c.in-Some.ensures.found.0 in
    let files : c.self.inside.files.items ≡ c.args.self.now.files = ap (λ (s : FilesInMemory). s.files) c.self.view_is in
    subst (λ (fs : List FileInMemory). IsTrue (is_some (look fs c.args.name.now)) × (c.bytes.result.now ≡ bytes_of (look fs c.args.name.now))) files
    (bytes_at c.self.inside.files.items c.args.name.now c.index.result.now c.bytes.result.now (at_place c.self.inside.files.items c.args.name.now c.in-Some.i c.index.result.now p c.index.ensures) c.bytes.ensures)
