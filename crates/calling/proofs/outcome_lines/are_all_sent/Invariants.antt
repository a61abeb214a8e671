use Rattle.std.proofs.Common.{◌≡◌, drop}
use Rattle.calling.specs.OutcomeLines.{all_sent}
use Rattle.calling.proofs.outcome_lines.are_all_sent.Given as goal

-- the pages so far are Sent
abbrev pub invariant-loop-outcome : goal.invariant-loop-outcome
invariant-loop-outcome l = all_sent l.outcomes ≡ all_sent (drop l.outcome-index l.outcomes)
