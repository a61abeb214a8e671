use Rattle.std.proofs.Common.{arith, rules, ◌-◌, set}
use Rattle.std.proofs.lemmas.Grind.{common_steps}
use Rattle.wires.proofs.ExactWire.{hears_exactly}
use Rattle.wires.proofs.fake_wire.MemoryWireWire.hear.Goals as goal

pub returns-then-fails_unless-clause-hears : goal.returns-then-fails_unless-clause-hears
returns-then-fails_unless-clause-hears c =
    let s = c.self.inside in
    hears_exactly c.args.self.now (record { connections = s.talks.items; opened = s.opened; is_open = s.is_open; asked = s.asked.address; cut = s.cut; calls = c.fails_unless.new.self; faults = c.raise_hear.new.self }) c.args.into.now _ (search rules) (search rules) (search rules) (search rules) (search rules) (search rules) (search rules) (search rules)

pub returns-clause-hears : goal.returns-clause-hears
returns-clause-hears c =
    let s = c.self.inside in
    hears_exactly c.args.self.now (record { connections = set s.talks.items (s.opened - 1) c.hear.new.self; opened = s.opened; is_open = s.is_open; asked = s.asked.address; cut = s.cut; calls = c.fails_unless.new.self; faults = s.faults }) c.hear.new.into _ (grind (arith, common_steps)) (search rules) (search rules) (search rules) (search rules) (search rules) (search rules) (search rules)
