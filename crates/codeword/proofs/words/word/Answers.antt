use Rattle.std.proofs.Common.{ℕ, ◌*◌, ◌%◌, ◌<◌, ◌^◌, arith, ap, ◌∙◌, bit_or, bit_and, count_ones}
use Rattle.bch31.proofs.Fronts.{check_bits_behind, parity_behind, word_of-parts}
use Rattle.codeword.proofs.words.word.Goals as goal

pub returns : goal.returns
returns c =
    let checks = c.check_bits.result in
    let small : checks < 2 ^ 10 = c.check_bits.ensures.small in
    ap (λ (s : ℕ). bit_or (s * 2 % 4294967296) (bit_and (count_ones s) 1)) (check_bits_behind c.args.front checks c.requires small)
    ∙ parity_behind _ (omega arith)
    ∙ word_of-parts c.args.front checks c.requires c.check_bits.ensures.value
