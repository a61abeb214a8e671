use Rattle.std.proofs.Common.{◌≡◌, ℕ, List, ◌++◌, ◌+◌, drop, Ok}
use Rattle.wires.specs.Written.{Puts}
use Rattle.wires.specs.declared.Failed.{Failed}
use Rattle.calling.specs.OutcomeLines.{lines_from, outcome_lines}
use Rattle.calling.proofs.outcome_lines.put_outcomes.Given as goal

-- the lines of the first k pages are put
abbrev pub invariant-loop-k : goal.invariant-loop-k
invariant-loop-k g l = (lines : List ℕ) × Puts {E = Failed} (g.O.Sink.state l.fn.out) (g.O.Sink.state l.out) lines (Ok (tt {0}))
    × (outcome_lines l.outcomes ≡ lines ++ lines_from (l.k + 1) (drop l.k l.outcomes))
