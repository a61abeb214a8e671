use Rattle.std.proofs.Common.{◌∙◌, sym, arith}
use Rattle.std.proofs.Common.{eqb-true}
use Rattle.receiver.specs.declared.places.TheConstants.{MIDDLE_PART, HIGH_PART}
use Rattle.receiver.proofs.WrongBits.{all_wrong, far_word}
use Rattle.receiver.proofs.places.has_no_sync.Goals as goal

pub returns : goal.returns
returns c full behind lt =
    let all = all_wrong c.wrong_bits-low.result c.wrong_bits-middle.result c.wrong_bits-high.result behind
    (sym c.low_word.ensures ∙ eqb-true c.low_word.result 4294967295 full) lt in
    far_word c.args.window behind MIDDLE_PART HIGH_PART (c.wrong_bits-low.ensures behind all.0) (c.wrong_bits-middle.ensures behind all.1) (c.wrong_bits-high.ensures behind all.2)
    (omega arith) (omega arith)
