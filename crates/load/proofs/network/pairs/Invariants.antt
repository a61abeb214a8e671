use Rattle.std.proofs.Common.{◌≡◌}
use Rattle.load.specs.Subscribers.{receivers_before}
use Rattle.load.proofs.network.pairs.Given as goal

abbrev pub invariant-loop-i : goal.invariant-loop-i
invariant-loop-i l = l.pairs.items ≡ receivers_before l.i
