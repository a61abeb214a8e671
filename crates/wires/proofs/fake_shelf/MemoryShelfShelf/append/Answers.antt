use Rattle.std.proofs.Common.{rules}
use Rattle.wires.proofs.ExactShelf.{appends_exactly}
use Rattle.wires.proofs.fake_shelf.MemoryShelfShelf.append.Goals as goal

pub returns-then-next-clause-appends : goal.returns-then-next-clause-appends
returns-then-next-clause-appends c = appends_exactly c.args.self.now (record { stored = c.self.inside.stored; calls = c.fault.new.self }) c.args.name.now c.args.piece.now _ (search rules) (search rules) (search rules)

pub returns-then-append-clause-appends : goal.returns-then-append-clause-appends
returns-then-append-clause-appends c = appends_exactly c.args.self.now (record { stored = c.append.new.self; calls = c.next.new.self }) c.args.name.now c.args.piece.now _ (search rules) (search rules) (search rules)

pub returns-clause-appends : goal.returns-clause-appends
returns-clause-appends c = appends_exactly c.args.self.now (record { stored = c.append.new.self; calls = c.fault-2.new.self }) c.args.name.now c.args.piece.now _ (search rules) (search rules) (search rules)
