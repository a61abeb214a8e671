use Rattle.std.proofs.Common.{arith}
use Rattle.listening.proofs.NoisyHeard.{flips_first, xor_fits}
use Rattle.listening.proofs.noise.flip_first.Goals as goal

pub overflow_cast-first : goal.overflow_cast-first
overflow_cast-first c =
    let lt = xor_fits c.len-count.result _ c.take-first.result c.number.result c.len-count.ensures.length c.len-count.ensures.few c.take-first.ensures.small c.number.ensures.small in
    omega (arith, lt)

pub returns-clause-flipped : goal.returns-clause-flipped
returns-clause-flipped c =
    flips_first c.args.piece.now c.args.flips.now c.of.result c.len-count.result c.take-first.result c.number.result c.len-count.ensures.length c.take-first.ensures.first c.number.ensures.bits c.of.ensures
