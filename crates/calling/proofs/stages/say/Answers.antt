use Rattle.std.proofs.Common.{arith}
use Rattle.std.proofs.lemmas.Grind.{common_steps}
use Rattle.wires.specs.Below.{Speaks}
use Rattle.wires.proofs.Below.{saying_back}
use Rattle.calling.proofs.stages.say.Goals as goal

pub returns : goal.returns
returns g c =
    let k : Speaks (g.W.Wire.state c.over-open.result.wire.now) (g.W.Wire.state c.put.new.self.wire.now) c.args.piece.now c.put.result =
    saying_back c.put.new.self.wire.ghost_name c.over-open.result.wire.ghost_name _ _ c.args.piece.now c.put.result c.put.ensures in
    grind (arith, common_steps, k)
