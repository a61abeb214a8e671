use Rattle.std.proofs.Common.{◌-◌, ◌/◌, ◌%◌, ◌^◌, get_or, sym, ◌∙◌}
use Rattle.std.specs.Int.Bits.{and_mask}
use Rattle.page_text.proofs.Texts.{bit_value-group_bits}
use Rattle.page_text.proofs.reader.bit.Goals as goal

pub returns : goal.returns
returns c =
    and_mask (get_or c.args.groups.now (c.args.place / 20) 0 / 2 ^ (19 - c.args.place % 20)) 1
    ∙ sym (bit_value-group_bits c.args.groups.now c.args.place c.requires)
