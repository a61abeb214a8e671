use Rattle.listening.proofs.HeardFronts.{group_lines-grow}
use Rattle.listening.proofs.PlayedPages.{group_lines-none}
use Rattle.serving.proofs.trial_tests.tried.Goals as goal

pub trial-status-requires-clause-silent : goal.trial-status-requires-clause-silent
trial-status-requires-clause-silent c = group_lines-none c.in_ok-group.group

pub trial-status-requires-clause-grows : goal.trial-status-requires-clause-grows
trial-status-requires-clause-grows c = group_lines-grow c.in_ok-group.group
