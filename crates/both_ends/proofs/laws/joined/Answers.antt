use Rattle.both_ends.proofs.BothEnds.{both_ends}
use Rattle.both_ends.proofs.laws.joined.Goals as goal

pub returns : goal.returns
returns c = both_ends
