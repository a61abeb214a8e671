use Rattle.std.proofs.Common.{ℕ, ◌≤◌, List, length, Ok}
use Rattle.wires.specs.Left.{Took}
use Rattle.wires.specs.Written.{Puts}
use Rattle.wires.specs.declared.Failed.{Failed}
use Rattle.wires.proofs.callers.copy.Given as goal

-- what was taken is written, at least one byte in each turn
abbrev pub invariant-loop : goal.invariant-loop
invariant-loop g l = (taken : List ℕ) × Took (g.S.Source.state l.fn.source) (g.S.Source.state l.source) taken × Puts {E = Failed} (g.K.Sink.state l.fn.sink) (g.K.Sink.state l.sink) taken (Ok (tt {0})) × (l.counter ≤ length taken)
