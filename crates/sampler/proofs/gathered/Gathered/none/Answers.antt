use Rattle.std.proofs.Common.{refl}
use Rattle.wires.proofs.Pieces.{none_left}
use Rattle.sampler.proofs.gathered.Gathered.none.Goals as goal

pub returns : goal.returns
returns c = none_left 0 0 refl
