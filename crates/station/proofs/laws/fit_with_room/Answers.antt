use Rattle.station.proofs.FitWorlds.{fit_err_with_room, fit_in_memory, fit_with_room}
use Rattle.station.proofs.laws.fit_with_room.Goals as goal

pub returns-clause-objects : goal.returns-clause-objects
returns-clause-objects c = fit_with_room

pub returns-clause-err : goal.returns-clause-err
returns-clause-err c = fit_err_with_room

pub returns-clause-memory : goal.returns-clause-memory
returns-clause-memory c = fit_in_memory
