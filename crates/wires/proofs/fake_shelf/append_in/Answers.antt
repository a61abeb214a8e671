use Rattle.std.proofs.Common.{List, subst}
use Rattle.wires.specs.FakeShelf.{FileInMemory, IsPlace}
use Rattle.wires.proofs.FakeShelf.{appends_at, appends_where}
use Rattle.wires.proofs.fake_shelf.append_in.Goals as goal

pub returns-clause-done : goal.returns-clause-done
returns-clause-done c =
    let p = subst (λ (fs : List FileInMemory). IsPlace fs c.args.name.now c.in-Some.i) c.deref.ensures.value c.in-Some.ensures.found.0 in
    appends_where c.args.files.now.items c.args.name.now c.args.piece.now c.in-Some.i c.index_mut-file.result.now c.append.result p c.index_mut-file.ensures.value c.append.ensures.done

pub returns-clause-appended : goal.returns-clause-appended
returns-clause-appended c =
    let p = subst (λ (fs : List FileInMemory). IsPlace fs c.args.name.now c.in-Some.i) c.deref.ensures.value c.in-Some.ensures.found.0 in
    appends_at c.args.files.now.items c.args.name.now c.args.piece.now c.in-Some.i c.index_mut-file.result.now c.append.new.self c.append.result p
    c.index_mut-file.ensures.value c.append.ensures.done c.append.ensures.appended
