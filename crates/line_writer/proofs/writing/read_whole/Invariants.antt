use Rattle.std.proofs.Common.{◌-◌, ◌≤◌, length, take}
use Rattle.line_writer.proofs.Reading.{ReadSo}
use Rattle.line_writer.proofs.writing.read_whole.Given as goal

-- so many bytes were read
abbrev pub invariant-loop-count : goal.invariant-loop-count
invariant-loop-count g l = record {
  few : l.count ≤ length l.into;
  so_far : ReadSo l.name (take l.count l.into) (g.F.Shelf.state l.fn.shelf) (g.F.Shelf.state l.shelf);
}

abbrev pub decreases-loop-count : goal.decreases-loop-count
decreases-loop-count g l = length l.initial.into - l.count
