use Rattle.std.proofs.Common.{Err, inl, inr, ap, ⊎_elim, ◌∙◌}
use Rattle.subscribers.proofs.Answered.{settings_of-long, settings_of-no_tree, settings_of-tree}
use Rattle.subscribers.proofs.settings.Settings.read.Goals as goal

pub returns-then-bytes-gt-MOST_BYTES : goal.returns-then-bytes-gt-MOST_BYTES
returns-then-bytes-gt-MOST_BYTES c = inr (settings_of-long _ c.if-bytes-gt-MOST_BYTES.true)

pub returns-in-Ok : goal.returns-in-Ok
returns-in-Ok c = ⊎_elim inl (λ e. inr (e ∙ settings_of-tree _ _ c.if-bytes-gt-MOST_BYTES.false c.in-Ok.ensures.tree)) c.settings_from_tree.ensures

pub returns-in-Err : goal.returns-in-Err
returns-in-Err c = ⊎_elim (λ e. inl (ap Err e)) (λ e. inr (ap Err e.0 ∙ settings_of-no_tree _ c.if-bytes-gt-MOST_BYTES.false e.1)) c.in-Err.ensures.refused
