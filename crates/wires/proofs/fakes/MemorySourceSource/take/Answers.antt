use Rattle.std.proofs.Common.{arith, rules, ◌+◌, drop}
use Rattle.std.proofs.lemmas.Grind.{common_steps}
use Rattle.wires.proofs.Exactly.{takes_exactly}
use Rattle.wires.proofs.fakes.MemorySourceSource.take.Goals as goal

pub returns-then-next-clause-takes : goal.returns-then-next-clause-takes
returns-then-next-clause-takes c =
    let s = c.self.inside in
    takes_exactly c.args.self.now (record { left = drop s.at s.bytes.items; cut = s.cut; calls = c.fault.new.self }) c.args.into.now _
    (search rules) (search rules) (search rules) c.requires (search rules)

pub returns-clause-takes : goal.returns-clause-takes
returns-clause-takes c =
    let s = c.self.inside in
    takes_exactly c.args.self.now (record { left = drop (s.at + c.move_front-n.result) s.bytes.items; cut = s.cut; calls = c.next.new.self }) c.move_front-n.new.into _
    (grind (arith, common_steps)) (search rules) (search rules) (search rules) (search rules)
