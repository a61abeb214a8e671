use Rattle.std.proofs.Common.{length}
use Rattle.receiver.proofs.Feeding.{Hunted}
use Rattle.receiver.proofs.front.find_sync.Given as goal

abbrev pub invariant-loop-bit : goal.invariant-loop-bit
invariant-loop-bit l = Hunted l.initial.register l.register l.initial.piece l.piece

abbrev pub decreases-loop-bit : goal.decreases-loop-bit
decreases-loop-bit l = length l.piece
