use Rattle.snpp_entry.proofs.Sessions.{fronts}
use Rattle.snpp_entry.proofs.laws.fronts.Goals as goal

pub returns : goal.returns
returns c directory spare x y = fronts directory spare x y
