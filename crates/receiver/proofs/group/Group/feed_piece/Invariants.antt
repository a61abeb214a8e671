use Rattle.std.proofs.Common.{[], length}
use Rattle.std.specs.Map.{keys_of}
use Rattle.receiver.specs.Listeners.{listener_of}
use Rattle.receiver.proofs.Pieces.{Counts, Fed}
use Rattle.receiver.proofs.group.Group.feed_piece.Given as goal

-- no page is complete so far
abbrev pub invariant-loop-page : goal.invariant-loop-page
invariant-loop-page g l = record {
  fed : Fed l.fn.self (listener_of l.self-inside.front (keys_of l.self-inside.holders) l.self-inside.holders l.self-inside.gathering) l.fn.piece l.piece [];
  counts : Counts l.fn.self l.fn.steps l.steps l.fn.piece l.piece;
}

abbrev pub decreases-loop-page : goal.decreases-loop-page
decreases-loop-page g l = length l.piece
