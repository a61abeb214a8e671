use Rattle.std.proofs.Common.{◌≡◌}
use Rattle.load.specs.Subscribers.{subscribers_before}
use Rattle.load.proofs.network.subscribers.Given as goal

abbrev pub invariant-loop-i : goal.invariant-loop-i
invariant-loop-i l = l.ids.items ≡ subscribers_before l.i
