use Rattle.std.proofs.Common.{rules}
use Rattle.wires.proofs.ExactShelf.{reads_exactly}
use Rattle.wires.proofs.fake_shelf.MemoryShelfShelf.read.Goals as goal

pub returns-then-next-clause-reads : goal.returns-then-next-clause-reads
returns-then-next-clause-reads c = reads_exactly c.args.self.now (record { stored = c.self.inside.stored; calls = c.fault.new.self }) c.args.name.now c.args.from c.args.into.now _ (search rules) (search rules) (search rules) c.requires

pub returns-in-Some-clause-reads : goal.returns-in-Some-clause-reads
returns-in-Some-clause-reads c = reads_exactly c.args.self.now (record { stored = c.self.inside.stored; calls = c.next.new.self }) c.args.name.now c.args.from c.read.new.into _ (search rules) (search rules) (search rules) (search rules)
