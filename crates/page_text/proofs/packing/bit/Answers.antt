use Rattle.std.proofs.Common.{◌/◌, ◌%◌, ◌^◌, sym, ap, ◌∙◌, arith, length, ◌+◌, ◌*◌, ◌<◌, ◌≡◌}
use Rattle.std.specs.Int.Bits.{and_mask}
use Rattle.page_text.specs.Coding.{fill_of, text_codes, width_of}
use Rattle.page_text.proofs.Codings.{length-text_codes}
use Rattle.page_text.proofs.Groups.{bit_value-filled_bits}
use Rattle.page_text.proofs.packing.bit.Goals as goal

pub returns : goal.returns
returns c =
    let w : c.width-width.result ≡ width_of c.args.coding = c.width-width.ensures.value in
    let within : c.args.place < (length (text_codes c.args.coding c.args.text.now) + 20) * width_of c.args.coding = rw (length-text_codes c.args.coding c.args.text.now) c.requires.within in
    c.from.ensures
    ∙ and_mask (c.code_at.result / 2 ^ (c.args.place % c.width-width.result)) 1
    ∙ ap (λ n. n / 2 ^ (c.args.place % c.width-width.result) % 2) c.code_at.ensures
    ∙ rw w (sym (bit_value-filled_bits (width_of c.args.coding) (fill_of c.args.coding) (text_codes c.args.coding c.args.text.now) c.args.place (omega (arith, c.width-width.ensures.few.0, w)) within))
