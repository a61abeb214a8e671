use Rattle.receiver.proofs.Windows.{finds_sync_word, filler_ends}
use Rattle.receiver.proofs.laws.windows.Goals as goal

pub returns-clause-found : goal.returns-clause-found
returns-clause-found c = finds_sync_word

pub returns-clause-ended : goal.returns-clause-ended
returns-clause-ended c = filler_ends
