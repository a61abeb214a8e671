use Rattle.std.proofs.Common.{[], length}
use Rattle.receiver.specs.Listeners.{listener_of}
use Rattle.receiver.proofs.Pieces.{Fed}
use Rattle.receiver.proofs.receiver.Receiver.feed_piece.Given as goal

-- no page is complete so far
abbrev pub invariant-loop-page : goal.invariant-loop-page
invariant-loop-page l = Fed l.fn.self (listener_of l.self-inside.front l.self-inside.capcodes [] l.self-inside.gathering) l.fn.piece l.piece []

abbrev pub decreases-loop-page : goal.decreases-loop-page
decreases-loop-page l = length l.piece
