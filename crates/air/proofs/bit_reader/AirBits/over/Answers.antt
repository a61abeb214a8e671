use Rattle.air.proofs.Bits.{air_words, no_bit}
use Rattle.air.proofs.bit_reader.AirBits.over.Goals as goal

pub returns-clause-bits : goal.returns-clause-bits
unfolding Rattle.bits.specs.Bits.bits_of
returns-clause-bits g c = air_words _ _ c.of-order.ensures.words

pub invariant_of-result-clause-empties : goal.invariant_of-result-clause-empties
invariant_of-result-clause-empties g c = no_bit 0 0 c.of-order.result c.args.pool.now c.of-order.ensures.follows
