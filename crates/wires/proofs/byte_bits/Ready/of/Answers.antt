use Rattle.std.proofs.Common.{refl, take}
use Rattle.bits.specs.Bits.{bytes_bits}
use Rattle.wires.proofs.Ahead.{none_pending}
use Rattle.wires.proofs.byte_bits.Ready.of.Goals as goal

pub returns : goal.returns
returns c = none_pending 0 0 (bytes_bits (take c.args.n c.args.bytes)) refl
