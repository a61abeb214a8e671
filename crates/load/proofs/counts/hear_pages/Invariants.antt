use Rattle.std.proofs.Common.{◌≡◌, ◌+◌, ◌≤◌, length}
use Rattle.bits.specs.Bits.{word_bits}
use Rattle.load.proofs.Counted.{CountsOn}
use Rattle.load.proofs.counts.hear_pages.Given as goal

abbrev pub invariant-loop-piece : goal.invariant-loop-piece
invariant-loop-piece l = record {
  capcodes : l.group.capcodes ≡ l.fn.group.capcodes;
  few : l.pages + length l.piece ≤ l.fn.pages + 32;
  counted : CountsOn l.fn.group l.fn.pages l.group l.pages (word_bits l.word) l.piece;
}

abbrev pub decreases-loop-piece : goal.decreases-loop-piece
decreases-loop-piece l = length l.piece
