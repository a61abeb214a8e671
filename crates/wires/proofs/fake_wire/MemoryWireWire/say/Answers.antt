use Rattle.std.proofs.Common.{arith, rules, ◌-◌, set}
use Rattle.std.proofs.lemmas.Grind.{common_steps}
use Rattle.wires.proofs.ExactWire.{says_exactly}
use Rattle.wires.proofs.fake_wire.MemoryWireWire.say.Goals as goal

pub returns-then-fails_unless-clause-says : goal.returns-then-fails_unless-clause-says
returns-then-fails_unless-clause-says c =
    let s = c.self.inside in
    says_exactly c.args.self.now (record { connections = s.talks.items; opened = s.opened; is_open = s.is_open; asked = s.asked.address; cut = s.cut; calls = c.fails_unless.new.self; faults = c.raise_say.new.self }) c.args.piece.now _ (search rules) (search rules) (search rules) (search rules) (search rules) (search rules)

pub returns-then-say-clause-says : goal.returns-then-say-clause-says
returns-then-say-clause-says c =
    let s = c.self.inside in
    says_exactly c.args.self.now (record { connections = set s.talks.items (s.opened - 1) c.say.new.self; opened = s.opened; is_open = s.is_open; asked = s.asked.address; cut = s.cut; calls = c.fails_unless.new.self; faults = s.faults }) c.args.piece.now _ (grind (arith, common_steps)) (search rules) (search rules) (search rules) (search rules) (search rules)
