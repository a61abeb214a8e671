use Rattle.repeats.proofs.TwinGrowing.{heard_twice-grow}
use Rattle.repeats.proofs.laws.twice_grows.Goals as goal

pub returns : goal.returns
returns c = heard_twice-grow
