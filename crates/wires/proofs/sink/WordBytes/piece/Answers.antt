use Rattle.std.proofs.Common.{◌*◌, ◌∙◌, ap, length, take}
use Rattle.bits.specs.Bits.{bytes_bits}
use Rattle.bits.proofs.Bytes.{bytes_bits-words}
use Rattle.wires.proofs.Stacked.{are_bytes-words, bits_puts}
use Rattle.wires.specs.Stacked.{are_bytes}
use Rattle.wires.proofs.sink.WordBytes.piece.Goals as goal

pub returns : goal.returns
returns g c =
    let words = c.args.words.now in
    bits_puts _ _ _ (take (4 * length words) c.lay_out.new.into) _ c.put.result (ap bytes_bits c.lay_out.ensures ∙ bytes_bits-words words) (ap are_bytes c.lay_out.ensures ∙ are_bytes-words words) c.put.ensures
