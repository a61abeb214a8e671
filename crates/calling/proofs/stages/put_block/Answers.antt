use Rattle.std.proofs.Common.{arith}
use Rattle.std.proofs.lemmas.Grind.{common_steps}
use Rattle.tap_entry.specs.Client.{block_at}
use Rattle.wires.specs.Below.{Speaks}
use Rattle.wires.proofs.Below.{saying_back}
use Rattle.calling.proofs.stages.put_block.Goals as goal

pub returns : goal.returns
returns g c =
    let k : Speaks (g.W.Wire.state c.over-open.result.wire.now) (g.W.Wire.state c.put.new.sink.wire.now) (block_at c.args.client.now.content c.args.client.now.acks) c.put.result =
    saying_back c.put.new.sink.wire.ghost_name c.over-open.result.wire.ghost_name _ _ (block_at c.args.client.now.content c.args.client.now.acks) c.put.result c.put.ensures in
    grind (arith, common_steps, k)
