use Rattle.std.proofs.Common.{refl}
use Rattle.bits.specs.Bits.{bits_of}
use Rattle.receiver.proofs.register.Register.clear.Goals as goal

pub returns : goal.returns
unfolding bits_of
returns c = refl
