use Rattle.std.proofs.Common.{rules, ◌+◌, true, false}
use Rattle.wires.proofs.ExactWire.{opens_exactly}
use Rattle.wires.proofs.fake_wire.MemoryWireWire.next.Goals as goal

pub returns-then-fails_unless-clause-opens : goal.returns-then-fails_unless-clause-opens
returns-then-fails_unless-clause-opens c =
    let s = c.self.inside in
    opens_exactly c.args.self.now (record { connections = s.talks.items; opened = s.opened; is_open = false; asked = s.asked.address; cut = s.cut; calls = c.fails_unless.new.self; faults = c.raise_gate.new.self }) _ (search rules) (search rules) (search rules) (search rules)

pub returns-then-self-len-clause-opens : goal.returns-then-self-len-clause-opens
returns-then-self-len-clause-opens c =
    let s = c.self.inside in
    opens_exactly c.args.self.now (record { connections = s.talks.items; opened = s.opened; is_open = false; asked = s.asked.address; cut = s.cut; calls = c.fails_unless.new.self; faults = s.faults }) _ (search rules) (search rules) (search rules) (search rules)

pub returns-clause-opens : goal.returns-clause-opens
returns-clause-opens c =
    let s = c.self.inside in
    opens_exactly c.args.self.now (record { connections = s.talks.items; opened = (s.opened + 1); is_open = true; asked = s.asked.address; cut = s.cut; calls = c.fails_unless.new.self; faults = s.faults }) _ (search rules) (search rules) (search rules) (search rules)
