use Rattle.one_block.proofs.OneAnswer.{one_block, one_text}
use Rattle.one_block.proofs.laws.one_answer.Goals as goal

pub returns-clause-block : goal.returns-clause-block
returns-clause-block c = one_block

pub returns-clause-text : goal.returns-clause-text
returns-clause-text c = one_text
