use Rattle.std.proofs.Common.{List, ◌≡◌, length}
use Rattle.page_pool.specs.Pool.{cells}
use Rattle.serving.specs.Leaves.{state_after}
use Rattle.serving.specs.Served.{Served}
use Rattle.serving.specs.Serving.{SoFar}
use Rattle.serving.proofs.serving.serve_on.Given as goal

-- as many sessions as the turns so far were served, sent and reported, and the entry line is that of the last one
abbrev pub invariant-loop-k : goal.invariant-loop-k
invariant-loop-k g l = record {
  cells_stay : cells l.pool ≡ cells l.fn.pool;
  so_far : (sessions : List (Served g.E.EntryLine.protocol l.settings l.fn.pool.spare))
      × SoFar (record { wire = g.W.Wire.state l.fn.wire; shelf = g.F.Shelf.state l.fn.shelf; out = g.O.Sink.state l.fn.out })
      (record { wire = g.W.Wire.state l.wire; shelf = g.F.Shelf.state l.shelf; out = g.O.Sink.state l.out }) l.address l.air l.count l.pool sessions
      × (g.E.EntryLine.state l.entry ≡ state_after (g.E.EntryLine.state l.fn.entry) sessions) × (length sessions ≡ l.k);
}
