use Rattle.page_text.proofs.Back.{length-groups, text_of-groups}
use Rattle.page_text.proofs.laws.back.Goals as goal

pub returns-clause-text : goal.returns-clause-text
returns-clause-text c = text_of-groups

pub returns-clause-few : goal.returns-clause-few
returns-clause-few c = length-groups
