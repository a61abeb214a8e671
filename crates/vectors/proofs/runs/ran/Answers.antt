use Rattle.station.proofs.WireCounts.{count-runs}
use Rattle.vectors.proofs.runs.ran.Goals as goal

pub returns : goal.returns
returns g c = count-runs _ _ _ _ c.run.ensures
