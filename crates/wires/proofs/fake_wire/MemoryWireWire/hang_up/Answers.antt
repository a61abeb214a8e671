use Rattle.std.proofs.Common.{rules, false}
use Rattle.wires.proofs.ExactWire.{hangs_up_exactly}
use Rattle.wires.proofs.fake_wire.MemoryWireWire.hang_up.Goals as goal

pub returns-then-fails_unless-clause-hangs_up : goal.returns-then-fails_unless-clause-hangs_up
returns-then-fails_unless-clause-hangs_up c =
    let s = c.self.inside in
    hangs_up_exactly c.args.self.now (record { connections = s.talks.items; opened = s.opened; is_open = false; asked = s.asked.address; cut = s.cut; calls = c.fails_unless.new.self; faults = c.raise_hang.new.self }) _ (search rules) (search rules) (search rules) (search rules)

pub returns-clause-hangs_up : goal.returns-clause-hangs_up
returns-clause-hangs_up c =
    let s = c.self.inside in
    hangs_up_exactly c.args.self.now (record { connections = s.talks.items; opened = s.opened; is_open = false; asked = s.asked.address; cut = s.cut; calls = c.fails_unless.new.self; faults = s.faults }) _ (search rules) (search rules) (search rules) (search rules)
