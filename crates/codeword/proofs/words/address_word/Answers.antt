use Rattle.std.proofs.Common.{ℕ, ◌+◌, ◌*◌, ◌<◌, ◌^◌, ap, ap₂, ◌∙◌}
use Rattle.bch31.specs.Word.{word_of}
use Rattle.codeword.specs.Words.{address_of}
use Rattle.codeword.proofs.Fields.{number_of-lt, function_behind}
use Rattle.codeword.proofs.words.address_word.Goals as goal

pub returns : goal.returns
unfolding address_of
returns c =
    let few : c.number.result < 4 = rw c.number.ensures (number_of-lt c.args.f) in
    c.word.ensures
    ∙ ap word_of (function_behind c.high.result c.number.result c.high.ensures.small few
    ∙ ap₂ (λ (high number : ℕ). high * 2 ^ 2 + number) c.high.ensures.value c.number.ensures)
