use Rattle.std.proofs.Common.{rules}
use Rattle.wires.proofs.ExactShelf.{freshens_exactly}
use Rattle.wires.proofs.fake_shelf.MemoryShelfShelf.fresh.Goals as goal

pub returns-then-next-clause-freshens : goal.returns-then-next-clause-freshens
returns-then-next-clause-freshens c = freshens_exactly c.args.self.now (record { stored = c.self.inside.stored; calls = c.fault.new.self }) c.args.name.now _ (search rules) (search rules) (search rules)

pub returns-then-fresh-clause-freshens : goal.returns-then-fresh-clause-freshens
returns-then-fresh-clause-freshens c = freshens_exactly c.args.self.now (record { stored = c.fresh.new.self; calls = c.next.new.self }) c.args.name.now _ (search rules) (search rules) (search rules)

pub returns-clause-freshens : goal.returns-clause-freshens
returns-clause-freshens c = freshens_exactly c.args.self.now (record { stored = c.fresh.new.self; calls = c.fault-2.new.self }) c.args.name.now _ (search rules) (search rules) (search rules)
