use Rattle.command_lines.proofs.CommandLines.{files_differ}
use Rattle.station.proofs.Promised.{promised}
use Rattle.station.proofs.Told.{told_well}
use Rattle.station.proofs.top.run.Goals as goal

pub returns : goal.returns
returns g c = record {
  command = _;
  words_are = c.parse.ensures;
  outcome = c.act-outcome.result;
  acts = c.act-outcome.ensures;
  promises = promised _ _ _ _ c.act-outcome.result c.act-outcome.ensures c.parse.ensures;
  tells = c.tell_outcome.ensures;
  err_well = told_well c.act-outcome.result _ _ c.tell_outcome.result c.tell_outcome.ensures;
}

pub act-outcome-requires : goal.act-outcome-requires
act-outcome-requires g c = files_differ _ _ c.parse.ensures
