use Rattle.std.proofs.Common.{IsTrue}
use Rattle.line_writer.proofs.Appending.{AppendedSo}
use Rattle.line_writer.proofs.writing.append_bits.Given as goal

-- the first bits were appended
abbrev pub invariant-loop-to_come : goal.invariant-loop-to_come
invariant-loop-to_come g l = record {
  told : IsTrue (g.B.BitSource.state l.bits).tells;
  steady : IsTrue (g.B.BitSource.state l.bits).steady;
  so_far : AppendedSo l.name (g.B.BitSource.state l.fn.bits).left (g.B.BitSource.state l.bits).left l.to_come (g.F.Shelf.state l.fn.shelf) (g.F.Shelf.state l.shelf);
}

abbrev pub decreases-loop-to_come : goal.decreases-loop-to_come
decreases-loop-to_come g l = l.to_come
