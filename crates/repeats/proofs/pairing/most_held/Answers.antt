use Rattle.std.proofs.Common.{refl}
use Rattle.repeats.specs.Twin.{held_slots}
use Rattle.repeats.proofs.pairing.most_held.Goals as goal

pub returns : goal.returns
unfolding held_slots
returns c = refl
