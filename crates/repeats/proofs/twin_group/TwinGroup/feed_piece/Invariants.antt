use Rattle.std.proofs.Common.{[], length}
use Rattle.std.specs.Map.{keys_of}
use Rattle.repeats.specs.TwinListeners.{twin_listener_of}
use Rattle.repeats.proofs.TwinPieces.{Quiet, TwinCounts, TwinFed}
use Rattle.repeats.proofs.twin_group.TwinGroup.feed_piece.Given as goal

-- no page is complete so far
abbrev pub invariant-loop-page : goal.invariant-loop-page
invariant-loop-page g l = record {
  fed : TwinFed l.fn.self (twin_listener_of l.self-inside.front (keys_of l.self-inside.holders) l.self-inside.holders l.self-inside.pairing l.self-inside.gathering) l.fn.piece l.piece [];
  quiet : Quiet l.fn.self l.fn.piece l.piece;
  counts : TwinCounts l.fn.self l.fn.steps l.steps l.fn.piece l.piece;
}

abbrev pub decreases-loop-page : goal.decreases-loop-page
decreases-loop-page g l = length l.piece
