use Rattle.std.proofs.Common.{◌<◌, ◌≤◌, length, SFits, w64, inl, inr, ⊎_elim, ap, arith, rules, ◌∙◌}
use Rattle.std.proofs.lemmas.Int.{to_z-of_z}
use Rattle.std.proofs.lemmas.List.{length-map}
use Rattle.subscribers.specs.Entries.{id_entries, ids_of}
use Rattle.subscribers.specs.Seen.{seen_entry, seen_entries, seen_group, seen_groups, seen_document}
use Rattle.subscribers.specs.Settings.{parts_of}
use Rattle.subscribers.proofs.Answered.{password_true, refused_password, refused_cells, refused_many, from_ids, made_ids, refused_ids}
use Rattle.subscribers.proofs.settings.settings_from.Goals as goal

pub returns-in-Err : goal.returns-in-Err
returns-in-Err c = inr (refused_password _ _ c.in-Err.ensures)

pub returns-in_default : goal.returns-in_default
returns-in_default c =
    let fits : SFits w64 c.args.document.now.cells = search rules in
    inr (refused_cells _ (password_true _ _ _ c.in-Ok.ensures).0 (rw (to_z-of_z w64 c.args.document.now.cells fits) at c.in_default.ensures))

pub returns-then-len-gt-MOST_SUBSCRIBERS : goal.returns-then-len-gt-MOST_SUBSCRIBERS
returns-then-len-gt-MOST_SUBSCRIBERS c =
    let fits : SFits w64 c.args.document.now.cells = search rules in
    let many : 10000 < length (seen_entries c.args.document.now.entries.items) = omega (arith, length-map c.args.document.now.entries.items seen_entry, c.args.document.now.entries.ok.0) in
    inr (refused_many _ _ (password_true _ _ _ c.in-Ok.ensures).0 (rw (to_z-of_z w64 c.args.document.now.cells fits) at c.in-Some.ensures) (inl many))

pub returns-then-len-gt-MOST_GROUPS : goal.returns-then-len-gt-MOST_GROUPS
returns-then-len-gt-MOST_GROUPS c =
    let fits : SFits w64 c.args.document.now.cells = search rules in
    let many : 1000 < length (seen_groups c.args.document.now.groups.items) = omega (arith, length-map c.args.document.now.groups.items seen_group, c.args.document.now.groups.ok.0) in
    inr (refused_many _ _ (password_true _ _ _ c.in-Ok.ensures).0 (rw (to_z-of_z w64 c.args.document.now.cells fits) at c.in-Some.ensures) (inr many))

pub returns-in-Ok-directory_from : goal.returns-in-Ok-directory_from
returns-in-Ok-directory_from c =
    let form = seen_document c.args.document.now in
    let fits : SFits w64 c.args.document.now.cells = search rules in
    let few : length (seen_entries c.args.document.now.entries.items) ≤ 10000 = omega (arith, length-map c.args.document.now.entries.items seen_entry, c.args.document.now.entries.ok.0) in
    let few_groups : length (seen_groups c.args.document.now.groups.items) ≤ 1000 = omega (arith, length-map c.args.document.now.groups.items seen_group, c.args.document.now.groups.ok.0) in
    let p = password_true _ _ _ c.in-Ok.ensures in
    inr (ap (parts_of c.in-Some.cells c.in-Ok.password) (made_ids _ _ c.in-Ok-directory_from.ensures
    ∙ ap (λ es. ids_of (id_entries (seen_entries es) (seen_groups c.deref-2.result.now))) c.deref.ensures.value
    ∙ ap (λ gs. ids_of (id_entries form.entries (seen_groups gs))) c.deref-2.ensures.value)
    ∙ ap (λ q. parts_of c.in-Some.cells q (ids_of (id_entries form.entries form.groups))) p.1
    ∙ from_ids form _ p.0 (rw (to_z-of_z w64 c.args.document.now.cells fits) at c.in-Some.ensures) few few_groups)

pub returns-in-Err-directory_from : goal.returns-in-Err-directory_from
returns-in-Err-directory_from c =
    let form = seen_document c.args.document.now in
    let fits : SFits w64 c.args.document.now.cells = search rules in
    let few : length (seen_entries c.args.document.now.entries.items) ≤ 10000 = omega (arith, length-map c.args.document.now.entries.items seen_entry, c.args.document.now.entries.ok.0) in
    let few_groups : length (seen_groups c.args.document.now.groups.items) ≤ 1000 = omega (arith, length-map c.args.document.now.groups.items seen_group, c.args.document.now.groups.ok.0) in
    let p = password_true _ _ _ c.in-Ok.ensures in
    let whole = ap (λ es. parts_of c.in-Some.cells form.password (ids_of (id_entries (seen_entries es) (seen_groups c.deref-2.result.now)))) c.deref.ensures.value
    ∙ ap (λ gs. parts_of c.in-Some.cells form.password (ids_of (id_entries form.entries (seen_groups gs)))) c.deref-2.ensures.value
    ∙ from_ids form _ p.0 (rw (to_z-of_z w64 c.args.document.now.cells fits) at c.in-Some.ensures) few few_groups in
    ⊎_elim inl (λ e. inr (e ∙ whole)) (refused_ids c.in-Some.cells form.password c.in-Err-directory_from.fault (ids_of (id_entries (seen_entries c.deref.result.now) (seen_groups c.deref-2.result.now))) c.in-Err-directory_from.ensures)
