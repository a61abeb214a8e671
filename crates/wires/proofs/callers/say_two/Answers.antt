use Rattle.std.proofs.Common.{arith, ◌++◌}
use Rattle.std.proofs.lemmas.Grind.{common_steps}
use Rattle.wires.specs.Below.{Speaks}
use Rattle.wires.proofs.Below.{saying_back}
use Rattle.wires.proofs.callers.say_two.Goals as goal

pub returns : goal.returns
returns g c =
    let k : Speaks (g.W.Wire.state c.over-open.result.wire.now) (g.W.Wire.state c.put_two.new.sink.wire.now) (c.args.first.now ++ c.args.second.now) c.put_two.result =
    saying_back c.put_two.new.sink.wire.ghost_name c.over-open.result.wire.ghost_name (g.W.Wire.state c.over-open.result.wire.now) (g.W.Wire.state c.put_two.new.sink.wire.now)
    (c.args.first.now ++ c.args.second.now) c.put_two.result c.put_two.ensures in
    grind (arith, common_steps, k)
