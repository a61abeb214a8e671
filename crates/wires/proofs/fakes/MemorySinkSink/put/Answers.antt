use Rattle.std.proofs.Common.{rules}
use Rattle.wires.proofs.Exactly.{puts_exactly}
use Rattle.wires.proofs.fakes.MemorySinkSink.put.Goals as goal

pub returns-then-fails-clause-puts : goal.returns-then-fails-clause-puts
returns-then-fails-clause-puts c =
    let s = c.self.inside in
    puts_exactly c.args.self.now (record { bytes = s.bytes.items; room = s.room; calls = c.fault.new.self }) c.args.piece.now _
    (search rules) (search rules) (search rules) (search rules) (search rules)

pub returns-in-Ok-clause-puts : goal.returns-in-Ok-clause-puts
returns-in-Ok-clause-puts c =
    let s = c.self.inside in
    puts_exactly c.args.self.now (record { bytes = c.extend_from_slice.new.self.items; room = s.room; calls = c.next-fails.new.self }) c.args.piece.now _
    (search rules) (search rules) (search rules) (search rules) (search rules)
