use Rattle.std.proofs.Common.{◌≤◌}
use Rattle.std.specs.Prelude.{All}
use Rattle.receiver.specs.Receivers.{most_receivers}
use Rattle.receiver.proofs.tests.hear_together.Given as goal

-- the pairs so far have numbers from 1 to 64
abbrev pub invariant-loop-capcode : goal.invariant-loop-capcode
invariant-loop-capcode l = All (λ pair. (1 ≤ pair.0) × (pair.0 ≤ most_receivers)) l.pairs.items
