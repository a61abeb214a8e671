use Rattle.std.proofs.Common.{rules, arith}
use Rattle.wires.proofs.ExactWire.{all_blank}
use Rattle.wires.proofs.fake_wire.MemoryWire.new.Goals as goal

pub invariant_of-result : goal.invariant_of-result
invariant_of-result c = (c.requires, omega arith, λ t. cc, all_blank c.args.heard.now c.args.room c.in-Ok.talks.items (search rules))
