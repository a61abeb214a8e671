use Rattle.std.proofs.Common.{ap, ◌∙◌}
use Rattle.bch31.specs.Word.{word_of}
use Rattle.codeword.specs.Words.{message_of}
use Rattle.codeword.proofs.Fields.{group_behind}
use Rattle.codeword.proofs.words.message_word.Goals as goal

pub returns : goal.returns
unfolding message_of
returns c = c.word.ensures ∙ ap word_of (group_behind c.args.group c.requires)
