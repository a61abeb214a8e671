use Rattle.std.proofs.Common.{◌≡◌, ◌⊎◌, [], None, codes, Some, None, option_map, unwrap_or, refl, inl, inr, ⊎_elim, sym, ap, ◌∙◌}
use Rattle.std.proofs.lemmas.Result.{IfOk-weaker, IfErr-weaker}
use Rattle.toml.specs.View.{items_view, table_view}
use Rattle.subscribers.specs.declared.faults.SettingsFault.TheVariants.{Memory, Form}
use Rattle.subscribers.specs.Form.{optional, array_of, all_of, group_entry_of}
use Rattle.subscribers.specs.Seen.{seen_groups}
use Rattle.subscribers.proofs.Forms.{read_none, read_other, read_array}
use Rattle.subscribers.proofs.tables.groups_at.Goals as goal

pub returns-in-None-clause-form : goal.returns-in-None-clause-form
returns-in-None-clause-form c = read_none group_entry_of (codes "group") _ c.in-None.ensures ∙ ap (λ es. Some (seen_groups es)) (sym c.new.ensures.items)

pub returns-in-Some-as_array-clause-form : goal.returns-in-Some-as_array-clause-form
returns-in-Some-as_array-clause-form c =
    let ms = table_view c.args.table.now in
    let whole = read_array group_entry_of (codes "group") ms _ _ c.in-Some.ensures c.in-Some-as_array.ensures in
    IfOk-weaker c.groups_from.result (λ v. all_of group_entry_of (items_view c.deref.result.now) ≡ Some (seen_groups v.items)) (λ v. option_map (λ l. unwrap_or l []) (optional (array_of group_entry_of) (codes "group") ms) ≡ Some (seen_groups v.items)) (λ v p.
    ap (option_map (λ l. unwrap_or l [])) whole
    ∙ ap (λ vs. option_map (λ l. unwrap_or l []) (option_map Some (all_of group_entry_of (items_view vs)))) (sym c.deref.ensures.value)
    ∙ ap (λ o. option_map (λ l. unwrap_or l []) (option_map Some o)) p) c.groups_from.ensures.form

pub returns-in-Some-as_array-clause-refused : goal.returns-in-Some-as_array-clause-refused
returns-in-Some-as_array-clause-refused c =
    let ms = table_view c.args.table.now in
    let whole = read_array group_entry_of (codes "group") ms _ _ c.in-Some.ensures c.in-Some-as_array.ensures in
    IfErr-weaker c.groups_from.result (λ e. (e ≡ Memory) ⊎ ((e ≡ Form) × (all_of group_entry_of (items_view c.deref.result.now) ≡ None))) (λ e. (e ≡ Memory) ⊎ ((e ≡ Form) × (optional (array_of group_entry_of) (codes "group") ms ≡ None))) (λ e p.
    ⊎_elim inl (λ h. inr (
      h.0,
      whole
          ∙ ap (λ vs. option_map Some (all_of group_entry_of (items_view vs))) (sym c.deref.ensures.value)
          ∙ ap (option_map Some) h.1,
    )) p) c.groups_from.ensures.refused

pub returns-in-None-as_array-clause-refused : goal.returns-in-None-as_array-clause-refused
returns-in-None-as_array-clause-refused c = inr (refl, read_other group_entry_of (codes "group") _ _ c.in-Some.ensures c.in-None-as_array.ensures)
