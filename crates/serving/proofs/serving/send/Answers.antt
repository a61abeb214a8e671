use Rattle.std.proofs.Common.{arith}
use Rattle.std.proofs.lemmas.Grind.{common_steps}
use Rattle.serving.specs.Serving.{SendsTo}
use Rattle.serving.proofs.Appended.{sends_to}
use Rattle.serving.proofs.serving.send.Goals as goal

pub returns : goal.returns
returns g c =
    let h = c.send_bytes.ensures in
    let k : SendsTo c.args.pool.now c.send_bytes.new.pool (g.F.Shelf.state c.over-file.result.shelf.now) (g.F.Shelf.state c.send_bytes.new.sink.shelf.now) c.over-file.result.name.now c.send_bytes.result
    = sends_to _ _ _ _ _ _ _ _ _ _ _ h.sends h.emptied h.cells_stay in
    grind (arith, common_steps, k)
