use Rattle.std.proofs.Common.{◌∙◌}
use Rattle.command_lines.proofs.Pairs.{with-all, with-turn}
use Rattle.command_lines.proofs.receivers.push_pairs.Goals as goal

pub loop-capcode-preserved : goal.loop-capcode-preserved
loop-capcode-preserved c =
    c.in-Ok.ensures.items
    ∙ with-turn c.args.number c.args.capcodes.now c.args.pairs.now.items c.loop-capcode.pairs.items c.loop-capcode.capcode-index c.capcode-item.result c.loop-capcode-test.true c.capcode-item.is c.loop-capcode.invariant

pub returns : goal.returns
returns c = with-all c.args.number c.args.capcodes.now c.args.pairs.now.items c.loop-capcode.pairs.items c.loop-capcode.capcode-index c.loop-capcode-test.false c.loop-capcode.invariant
