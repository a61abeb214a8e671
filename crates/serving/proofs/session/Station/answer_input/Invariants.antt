use Rattle.std.proofs.Common.{ℕ, List, [], ◌≡◌, ◌≤◌, length}
use Rattle.page_pool.specs.Pool.{cells}
use Rattle.serving.specs.Answering.{Answering}
use Rattle.serving.proofs.session.Station.answer_input.Given as goal

abbrev pub invariant-loop : goal.invariant-loop
invariant-loop g l = record {
  settings : l.self.settings ≡ l.fn.self.settings;
  cells_stay : cells l.self.pool ≡ cells l.fn.self.pool;
  so_far : (taken : List ℕ)
      × Answering l.fn.self.settings l.fn.self.pool.spare (g.I.Source.state l.fn.input) (g.I.Source.state l.input) l.fn.self.pool l.self.pool l.self.desk
      (g.O.Sink.state l.fn.out) (g.O.Sink.state l.out) taken []
      × (l.counter ≤ length taken);
}
