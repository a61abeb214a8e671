use Rattle.station.proofs.Delivered.{delivered}
use Rattle.station.proofs.laws.delivered.Goals as goal

pub returns : goal.returns
returns c = delivered
