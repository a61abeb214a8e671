use Rattle.receiver.proofs.WrongBits.{others_of_one, others_of_zero}
use Rattle.receiver.proofs.places.other_bits.Goals as goal

pub returns-then-bit : goal.returns-then-bit
returns-then-bit c = λ place h. rw c.if-bit.true (others_of_one c.args.window place c.ranges.window.fits h)

pub returns-else-bit : goal.returns-else-bit
returns-else-bit c = λ place h. rw c.if-bit.false (others_of_zero c.args.window place h)
