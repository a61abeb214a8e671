use Rattle.std.proofs.Common.{SFits, w64, refl, inl, inr, ⊎_elim, rules}
use Rattle.std.proofs.lemmas.Int.{to_z-of_z}
use Rattle.subscribers.proofs.Forms.{form_of-other_key, form_of-no_cells, form_of-no_password, form_of-no_entries, form_of-no_groups, form_of-all}
use Rattle.subscribers.proofs.document.document_from.Goals as goal

pub returns-then-not-has_only_file_keys-clause-refused : goal.returns-then-not-has_only_file_keys-clause-refused
returns-then-not-has_only_file_keys-clause-refused c = inr (refl, form_of-other_key _ _ c.if-not-has_only_file_keys.ensures)

pub returns-in_default-clause-refused : goal.returns-in_default-clause-refused
returns-in_default-clause-refused c = inr (refl, form_of-no_cells _ _ c.if-not-has_only_file_keys.ensures c.in_default.ensures)

pub returns-in_default-text_or_none_at-clause-refused : goal.returns-in_default-text_or_none_at-clause-refused
returns-in_default-text_or_none_at-clause-refused c = inr (refl, form_of-no_password _ _ _ c.if-not-has_only_file_keys.ensures c.in-Some.ensures c.in_default-text_or_none_at.ensures)

pub returns-in-Err-clause-refused : goal.returns-in-Err-clause-refused
returns-in-Err-clause-refused c =
    ⊎_elim inl (λ h. inr (h.0, form_of-no_entries _ _ _ _ c.if-not-has_only_file_keys.ensures c.in-Some.ensures c.in-Some-text_or_none_at.ensures h.1)) c.in-Err.ensures.refused

pub returns-clause-refused : goal.returns-clause-refused
returns-clause-refused c =
    ⊎_elim inl (λ h. inr (h.0, form_of-no_groups _ _ _ _ c.if-not-has_only_file_keys.ensures c.in-Some.ensures c.in-Some-text_or_none_at.ensures h.1)) c.in-Err-groups_at.ensures.refused

pub returns-in-Ok-groups_at-clause-form : goal.returns-in-Ok-groups_at-clause-form
returns-in-Ok-groups_at-clause-form c =
    let fits : SFits w64 c.in-Some.cells = search rules in
    rw (to_z-of_z w64 c.in-Some.cells fits)
    (form_of-all _ _ _ _ _ _ c.if-not-has_only_file_keys.ensures c.in-Some.ensures c.in-Some-text_or_none_at.ensures c.in-Ok.ensures.form c.in-Ok-groups_at.ensures.form)
