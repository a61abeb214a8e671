use Rattle.std.proofs.Common.{ap}
use Rattle.listening.specs.Table.{entry_lines, table_of}
use Rattle.listening.proofs.HeardFronts.{table_of-grow}
use Rattle.listening.proofs.Tables.{entries-none}
use Rattle.listening.proofs.WellListened.{listened_well}
use Rattle.listening.proofs.playing.show.Goals as goal

pub listen-requires-clause-silent : goal.listen-requires-clause-silent
listen-requires-clause-silent g c = ap (entry_lines 0) entries-none

pub listen-requires-clause-grows : goal.listen-requires-clause-grows
listen-requires-clause-grows g c = table_of-grow

pub returns-clause-out_well : goal.returns-clause-out_well
returns-clause-out_well g c = listened_well table_of _ _ _ _ c.listen.result c.listen.ensures
