use Rattle.std.proofs.Common.{arith}
use Rattle.std.proofs.lemmas.Grind.{common_steps}
use Rattle.wires.specs.Below.{KeepsBeside}
use Rattle.wires.proofs.Below.{file_keeps}
use Rattle.wires.proofs.callers.append_words.Goals as goal

pub returns-clause-beside : goal.returns-clause-beside
returns-clause-beside g c =
    let k : KeepsBeside (g.F.Shelf.state c.over-file.result.shelf.now) (g.F.Shelf.state c.words_over.new.sink.shelf.now) c.over-file.result.name.now =
    file_keeps c.words_over.new.sink.shelf.ghost_name c.over-file.result.shelf.ghost_name c.over-file.result.name.now c.words_over.new.sink.name.now (g.F.Shelf.state c.over-file.result.shelf.now) (g.F.Shelf.state c.words_over.new.sink.shelf.now)
    c.words_over.ensures.lent in
    grind (arith, common_steps, k)
