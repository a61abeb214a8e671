use Rattle.receiver.proofs.Growing.{entries-grow, heard-grow, shown-grow}
use Rattle.receiver.proofs.laws.growing.Goals as goal

pub returns-clause-pages : goal.returns-clause-pages
returns-clause-pages c = heard-grow

pub returns-clause-shown : goal.returns-clause-shown
returns-clause-shown c = shown-grow

pub returns-clause-entries : goal.returns-clause-entries
returns-clause-entries c = entries-grow
