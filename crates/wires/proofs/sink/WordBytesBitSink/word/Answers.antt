use Rattle.std.proofs.Common.{ap, ◌∙◌}
use Rattle.bits.specs.Bits.{bytes_bits}
use Rattle.bits.proofs.Bytes.{bytes_bits-word}
use Rattle.wires.proofs.Stacked.{are_bytes-word, bits_puts}
use Rattle.wires.specs.Stacked.{are_bytes}
use Rattle.wires.proofs.sink.WordBytesBitSink.word.Goals as goal

pub returns : goal.returns
returns g c = bits_puts _ _ _ c.to_be_bytes.result _ c.put.result (ap bytes_bits c.to_be_bytes.ensures ∙ bytes_bits-word c.args.w) (ap are_bytes c.to_be_bytes.ensures ∙ are_bytes-word c.args.w) c.put.ensures
