use Rattle.std.proofs.Common.{ℕ, List, [], ◌≤◌, length}
use Rattle.page_pool.specs.Pool.{Pool}
use Rattle.wires.specs.Line.{Line}
use Rattle.serving.specs.Sessions.{SessionUnderWay}
use Rattle.serving.proofs.talking.talk.Given as goal

abbrev pub invariant-loop : goal.invariant-loop
invariant-loop g l = (spare : ℕ) (first : Line) (before : Pool)
    → SessionUnderWay g.E.EntryLine.protocol l.settings spare first (g.W.Wire.state l.fn.wire) before l.fn.pool (g.E.EntryLine.state l.fn.entry) [] []
    → (heard : List ℕ) × SessionUnderWay g.E.EntryLine.protocol l.settings spare first (g.W.Wire.state l.wire) before l.pool (g.E.EntryLine.state l.entry) heard [] × (l.counter ≤ length heard)
