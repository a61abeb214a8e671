use Rattle.std.specs.List.{IsDistinct}
use Rattle.std.proofs.Common.{refl}
use Rattle.subscribers.proofs.tests.numbers_are_ids.Goals as goal

pub made-requires-clause-differ : goal.made-requires-clause-differ
unfolding IsDistinct
made-requires-clause-differ g c = ((refl, (refl, (refl, tt))), ((refl, (refl, tt)), ((refl, tt), (tt, tt))))
