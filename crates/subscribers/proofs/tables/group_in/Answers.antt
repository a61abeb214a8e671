use Rattle.std.proofs.Common.{refl, inl, inr, ⊎_elim}
use Rattle.subscribers.proofs.Forms.{group_in-other_key, group_in-no_id, group_in-no_class, group_in-no_capcodes, group_in-all}
use Rattle.subscribers.proofs.tables.group_in.Goals as goal

pub returns-then-not-has_only_group_keys-clause-refused : goal.returns-then-not-has_only_group_keys-clause-refused
returns-then-not-has_only_group_keys-clause-refused c = inr (refl, group_in-other_key _ c.if-not-has_only_group_keys.ensures)

pub returns-in_default-clause-refused : goal.returns-in_default-clause-refused
returns-in_default-clause-refused c = inr (refl, group_in-no_id _ c.if-not-has_only_group_keys.ensures c.in_default.ensures)

pub returns-in_default-text_at-clause-refused : goal.returns-in_default-text_at-clause-refused
returns-in_default-text_at-clause-refused c = inr (refl, group_in-no_class _ _ c.if-not-has_only_group_keys.ensures c.in-Some.ensures c.in_default-text_at.ensures)

pub returns-in-Ok-clause-form : goal.returns-in-Ok-clause-form
returns-in-Ok-clause-form c = group_in-all _ _ _ _ c.if-not-has_only_group_keys.ensures c.in-Some.ensures c.in-Ok.ensures.form c.in-Some-text_at.ensures

pub returns-in-Err-clause-refused : goal.returns-in-Err-clause-refused
returns-in-Err-clause-refused c = ⊎_elim inl (λ h. inr (h.0, group_in-no_capcodes _ _ c.if-not-has_only_group_keys.ensures c.in-Some.ensures h.1)) c.in-Err.ensures.refused
