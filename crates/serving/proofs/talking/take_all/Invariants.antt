use Rattle.std.proofs.Common.{ℕ, List, drop}
use Rattle.page_pool.specs.Pool.{Pool}
use Rattle.wires.specs.Line.{Line}
use Rattle.serving.specs.Sessions.{SessionUnderWay}
use Rattle.serving.proofs.talking.take_all.Given as goal

abbrev pub invariant-loop-byte : goal.invariant-loop-byte
invariant-loop-byte g l = (spare : ℕ) (first : Line) (before : Pool) (heard : List ℕ)
    → SessionUnderWay g.E.EntryLine.protocol l.settings spare first (g.W.Wire.state l.fn.wire) before l.fn.pool (g.E.EntryLine.state l.fn.entry) heard l.bytes
    → SessionUnderWay g.E.EntryLine.protocol l.settings spare first (g.W.Wire.state l.wire) before l.pool (g.E.EntryLine.state l.entry) heard (drop l.byte-index l.bytes)
