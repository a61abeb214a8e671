use Rattle.std.proofs.Common.{◌≡◌, ◌+◌, ◌≤◌, length}
use Rattle.bits.specs.Bits.{word_bits}
use Rattle.load.proofs.CountedLines.{LinesOn}
use Rattle.load.proofs.counts.hear_lines.Given as goal

abbrev pub invariant-loop-piece : goal.invariant-loop-piece
invariant-loop-piece l = record {
  capcodes : l.group.capcodes ≡ l.fn.group.capcodes;
  few : l.lines.count + length l.piece ≤ l.fn.lines.count + 32;
  counted : LinesOn l.fn.group l.fn.lines.count l.fn.lines.bytes l.fn.lines.sum l.group l.lines.count l.lines.bytes l.lines.sum (word_bits l.word) l.piece;
}

abbrev pub decreases-loop-piece : goal.decreases-loop-piece
decreases-loop-piece l = length l.piece
