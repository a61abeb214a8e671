use Rattle.std.proofs.Common.{rules, ◌+◌, true, false}
use Rattle.wires.proofs.ExactWire.{dials_exactly}
use Rattle.wires.proofs.fake_wire.MemoryWireWire.dial.Goals as goal

pub returns-then-fails_unless-clause-dials : goal.returns-then-fails_unless-clause-dials
returns-then-fails_unless-clause-dials c =
    let s = c.self.inside in
    dials_exactly c.args.self.now (record { connections = s.talks.items; opened = s.opened; is_open = false; asked = c.of-self-inside.result.address; cut = s.cut; calls = c.fails_unless.new.self; faults = c.raise_gate.new.self }) c.args.to.now _ (search rules) (search rules) (search rules) (search rules)

pub returns-clause-dials : goal.returns-clause-dials
returns-clause-dials c =
    let s = c.self.inside in
    dials_exactly c.args.self.now (record { connections = s.talks.items; opened = (s.opened + 1); is_open = true; asked = c.of-self-inside.result.address; cut = s.cut; calls = c.fails_unless.new.self; faults = s.faults }) c.args.to.now _ (search rules) (search rules) (search rules) (search rules)
