use Rattle.std.proofs.Common.{refl, []}
use Rattle.wires.proofs.Ahead.{none_pending}
use Rattle.wires.proofs.byte_bits.Ready.none.Goals as goal

pub returns : goal.returns
returns c = none_pending 0 0 [] refl
