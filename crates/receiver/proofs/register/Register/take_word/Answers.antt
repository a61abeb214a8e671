use Rattle.std.proofs.Common.{arith, ◌∙◌}
use Rattle.std.proofs.lemmas.List.{drop_all, take_all}
use Rattle.receiver.proofs.register.Register.take_word.Goals as goal

pub returns-clause-none : goal.returns-clause-none
returns-clause-none c = c.take.ensures.left ∙ drop_all 32 c.args.piece.now (omega arith)

pub returns-clause-word : goal.returns-clause-word
returns-clause-word c = c.take.ensures.first ∙ take_all 32 c.args.piece.now (omega arith)
