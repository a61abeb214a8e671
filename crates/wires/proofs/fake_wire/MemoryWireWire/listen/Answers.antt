use Rattle.std.proofs.Common.{rules}
use Rattle.wires.proofs.ExactWire.{listens_exactly}
use Rattle.wires.proofs.fake_wire.MemoryWireWire.listen.Goals as goal

pub returns-then-fails_unless-clause-listens : goal.returns-then-fails_unless-clause-listens
returns-then-fails_unless-clause-listens c =
    let s = c.self.inside in
    listens_exactly c.args.self.now (record { connections = s.talks.items; opened = s.opened; is_open = s.is_open; asked = c.of-self-inside.result.address; cut = s.cut; calls = c.fails_unless.new.self; faults = c.raise_gate.new.self }) c.args.at.now _ (search rules) (search rules) (search rules) (search rules)

pub returns-clause-listens : goal.returns-clause-listens
returns-clause-listens c =
    let s = c.self.inside in
    listens_exactly c.args.self.now (record { connections = s.talks.items; opened = s.opened; is_open = s.is_open; asked = c.of-self-inside.result.address; cut = s.cut; calls = c.fails_unless.new.self; faults = s.faults }) c.args.at.now _ (search rules) (search rules) (search rules) (search rules)
