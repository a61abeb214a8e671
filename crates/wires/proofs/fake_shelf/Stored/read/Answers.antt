use Rattle.std.proofs.Common.{List, IsTrue, is_some, subst, ap, ◌≡◌}
use Rattle.wires.specs.FakeShelf.{CopiesIn, FileInMemory, FilesInMemory, IsPlace, bytes_of, look}
use Rattle.wires.proofs.FakeShelf.{at_place, copies_at}
use Rattle.wires.proofs.fake_shelf.Stored.read.Goals as goal

pub returns-in-Some : goal.returns-in-Some
returns-in-Some c =
    let p = subst (λ (fs : List FileInMemory). IsPlace fs c.args.name.now c.in-Some.i) c.deref.ensures.value c.in-Some.ensures.found.0 in
    let files : c.self.inside.files.items ≡ c.args.self.now.files = ap (λ (s : FilesInMemory). s.files) c.self.view_is in
    subst (λ (fs : List FileInMemory). IsTrue (is_some (look fs c.args.name.now)) × CopiesIn (bytes_of (look fs c.args.name.now)) c.args.from c.read.new.into c.read.result) files
    (copies_at c.self.inside.files.items c.args.name.now c.args.from c.read.new.into c.read.result c.index.result.now (at_place c.self.inside.files.items c.args.name.now c.in-Some.i c.index.result.now p c.index.ensures) c.read.ensures)
