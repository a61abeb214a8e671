use Rattle.std.proofs.Common.{ℕ, List, drop, ◌≡◌}
use Rattle.page_pool.specs.Pool.{Pool, cells}
use Rattle.wires.specs.Left.{Left}
use Rattle.wires.specs.Written.{Written}
use Rattle.serving.specs.Answering.{Answering}
use Rattle.serving.proofs.session.Station.answer_all.Given as goal

abbrev pub invariant-loop-byte : goal.invariant-loop-byte
invariant-loop-byte g l = record {
  settings : l.self.settings ≡ l.fn.self.settings;
  cells_stay : cells l.self.pool ≡ cells l.fn.self.pool;
  on : (spare : ℕ) (first now : Left ℕ) (before : Pool) (out0 : Written ℕ) (taken : List ℕ)
      → Answering l.fn.self.settings spare first now before l.fn.self.pool l.fn.self.desk out0 (g.O.Sink.state l.fn.out) taken l.bytes
      → Answering l.self.settings spare first now before l.self.pool l.self.desk out0 (g.O.Sink.state l.out) taken (drop l.byte-index l.bytes);
}
