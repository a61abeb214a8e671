use Rattle.std.proofs.Common.{SFits, w64, rules}
use Rattle.std.proofs.lemmas.Int.{to_z-of_z}
use Rattle.subscribers.proofs.Forms.{entry_in-other_key, entry_in-no_id, entry_in-no_capcode, entry_in-no_class, entry_in-all}
use Rattle.subscribers.proofs.tables.entry_in.Goals as goal

pub returns-then-not-has_only_entry_keys : goal.returns-then-not-has_only_entry_keys
returns-then-not-has_only_entry_keys c = entry_in-other_key _ c.if-not-has_only_entry_keys.ensures

pub returns-in_default : goal.returns-in_default
returns-in_default c = entry_in-no_id _ c.if-not-has_only_entry_keys.ensures c.in_default.ensures

pub returns-in_default-integer_at : goal.returns-in_default-integer_at
returns-in_default-integer_at c = entry_in-no_capcode _ _ c.if-not-has_only_entry_keys.ensures c.in-Some.ensures c.in_default-integer_at.ensures

pub returns-in_default-text_at : goal.returns-in_default-text_at
returns-in_default-text_at c = entry_in-no_class _ _ _ c.if-not-has_only_entry_keys.ensures c.in-Some.ensures c.in-Some-integer_at.ensures c.in_default-text_at.ensures

pub returns : goal.returns
returns c =
    let fits : SFits w64 c.in-Some-integer_at.capcode = search rules in
    rw (to_z-of_z w64 c.in-Some-integer_at.capcode fits) (entry_in-all _ _ _ _ c.if-not-has_only_entry_keys.ensures c.in-Some.ensures c.in-Some-integer_at.ensures c.in-Some-text_at.ensures)
