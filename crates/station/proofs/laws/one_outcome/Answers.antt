use Rattle.serving.specs.Protocols.{snpp, tap}
use Rattle.station.proofs.OneOfOne.{one_one}
use Rattle.station.proofs.OneOutcomes.{one_play, one_play_line, one_show}
use Rattle.station.proofs.OneLines.{one_write_line}
use Rattle.station.proofs.OneLoads.{one_load}
use Rattle.station.proofs.OneRuns.{one_run}
use Rattle.station.proofs.OneSends.{one_send}
use Rattle.station.proofs.OneStations.{one_station}
use Rattle.station.proofs.OneTrials.{one_trial}
use Rattle.station.proofs.laws.one_outcome.Goals as goal

pub returns-clause-play : goal.returns-clause-play
returns-clause-play c = one_play

pub returns-clause-play_line : goal.returns-clause-play_line
returns-clause-play_line c = one_play_line

pub returns-clause-write_line : goal.returns-clause-write_line
returns-clause-write_line c = one_write_line

pub returns-clause-show : goal.returns-clause-show
returns-clause-show c = one_show

pub returns-clause-one : goal.returns-clause-one
returns-clause-one c = one_one

pub returns-clause-load : goal.returns-clause-load
returns-clause-load c = one_load

pub returns-clause-station : goal.returns-clause-station
returns-clause-station c = one_station tap

pub returns-clause-snpp : goal.returns-clause-snpp
returns-clause-snpp c = one_station snpp

pub returns-clause-trial : goal.returns-clause-trial
returns-clause-trial c = one_trial

pub returns-clause-send : goal.returns-clause-send
returns-clause-send c = one_send

pub returns-clause-run : goal.returns-clause-run
returns-clause-run c = one_run
