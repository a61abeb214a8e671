use Rattle.air.proofs.Near.{near-airs}
use Rattle.near.proofs.NearAir.{near_air}
use Rattle.near.proofs.laws.near_air.Goals as goal

pub returns-clause-near : goal.returns-clause-near
returns-clause-near c = near_air

pub returns-clause-clean : goal.returns-clause-clean
returns-clause-clean c = near-airs
