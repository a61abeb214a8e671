use Rattle.listening.specs.PageLines.{group_lines}
use Rattle.listening.proofs.HeardFronts.{group_lines-grow}
use Rattle.listening.proofs.PlayedPages.{group_lines-none}
use Rattle.listening.proofs.WellListened.{listened_well}
use Rattle.listening.proofs.playing.play.Goals as goal

pub listen-requires-clause-silent : goal.listen-requires-clause-silent
listen-requires-clause-silent g c = group_lines-none c.args.group.now

pub listen-requires-clause-grows : goal.listen-requires-clause-grows
listen-requires-clause-grows g c = group_lines-grow c.args.group.now

pub returns-clause-out_well : goal.returns-clause-out_well
returns-clause-out_well g c = listened_well (group_lines c.args.group.now) _ _ _ _ c.listen.result c.listen.ensures
