use Rattle.std.proofs.Common.{Err, inl, inr, ap, ⊎_elim, ◌∙◌}
use Rattle.subscribers.proofs.Answered.{settings_of_tree-no_version, settings_of_tree-no_form, settings_of_tree-form}
use Rattle.subscribers.proofs.settings.settings_from_tree.Goals as goal

pub returns-in-Err : goal.returns-in-Err
returns-in-Err c = inr (settings_of_tree-no_version _ _ c.in-Err.ensures)

pub returns-in-Ok-document_from : goal.returns-in-Ok-document_from
returns-in-Ok-document_from c = ⊎_elim inl (λ e. inr (e ∙ settings_of_tree-form _ _ _ c.in-Ok.ensures c.in-Ok-document_from.ensures.form)) c.settings_from.ensures

pub returns-in-Err-document_from : goal.returns-in-Err-document_from
returns-in-Err-document_from c = ⊎_elim (λ e. inl (ap Err e)) (λ e. inr (ap Err e.0 ∙ settings_of_tree-no_form _ _ c.in-Ok.ensures e.1)) c.in-Err-document_from.ensures.refused
