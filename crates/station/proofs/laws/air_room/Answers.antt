use Rattle.station.proofs.FitRooms.{airs_fit, shelf_fits, wire_fits}
use Rattle.station.proofs.CallRooms.{call_fits}
use Rattle.station.proofs.laws.air_room.Goals as goal

pub returns-clause-airs : goal.returns-clause-airs
returns-clause-airs c = airs_fit

pub returns-clause-shelf : goal.returns-clause-shelf
returns-clause-shelf c = shelf_fits

pub returns-clause-wire : goal.returns-clause-wire
returns-clause-wire c = wire_fits

pub returns-clause-call : goal.returns-clause-call
returns-clause-call c = call_fits
