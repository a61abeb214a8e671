use Rattle.air.proofs.Bits.{no_bit}
use Rattle.air.proofs.bit_reader.AirBits.next.Goals as goal

pub invariant_of-self-clause-empties : goal.invariant_of-self-clause-empties
invariant_of-self-clause-empties g c = no_bit _ _ _ _ c.next.ensures.gives.follows
