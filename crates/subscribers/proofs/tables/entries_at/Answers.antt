use Rattle.std.proofs.Common.{◌≡◌, ◌⊎◌, [], None, codes, Some, None, option_map, unwrap_or, refl, inl, inr, ⊎_elim, sym, ap, ◌∙◌}
use Rattle.std.proofs.lemmas.Result.{IfOk-weaker, IfErr-weaker}
use Rattle.toml.specs.View.{items_view, table_view}
use Rattle.subscribers.specs.declared.faults.SettingsFault.TheVariants.{Memory, Form}
use Rattle.subscribers.specs.Form.{optional, array_of, all_of, subscriber_entry_of}
use Rattle.subscribers.specs.Seen.{seen_entries}
use Rattle.subscribers.proofs.Forms.{read_none, read_other, read_array}
use Rattle.subscribers.proofs.tables.entries_at.Goals as goal

pub returns-in-None-clause-form : goal.returns-in-None-clause-form
returns-in-None-clause-form c = read_none subscriber_entry_of (codes "subscriber") _ c.in-None.ensures ∙ ap (λ es. Some (seen_entries es)) (sym c.new.ensures.items)

pub returns-in-Some-as_array-clause-form : goal.returns-in-Some-as_array-clause-form
returns-in-Some-as_array-clause-form c =
    let ms = table_view c.args.table.now in
    let whole = read_array subscriber_entry_of (codes "subscriber") ms _ _ c.in-Some.ensures c.in-Some-as_array.ensures in
    IfOk-weaker c.entries_from.result (λ v. all_of subscriber_entry_of (items_view c.deref.result.now) ≡ Some (seen_entries v.items)) (λ v. option_map (λ l. unwrap_or l []) (optional (array_of subscriber_entry_of) (codes "subscriber") ms) ≡ Some (seen_entries v.items)) (λ v p.
    ap (option_map (λ l. unwrap_or l [])) whole
    ∙ ap (λ vs. option_map (λ l. unwrap_or l []) (option_map Some (all_of subscriber_entry_of (items_view vs)))) (sym c.deref.ensures.value)
    ∙ ap (λ o. option_map (λ l. unwrap_or l []) (option_map Some o)) p) c.entries_from.ensures.form

pub returns-in-Some-as_array-clause-refused : goal.returns-in-Some-as_array-clause-refused
returns-in-Some-as_array-clause-refused c =
    let ms = table_view c.args.table.now in
    let whole = read_array subscriber_entry_of (codes "subscriber") ms _ _ c.in-Some.ensures c.in-Some-as_array.ensures in
    IfErr-weaker c.entries_from.result (λ e. (e ≡ Memory) ⊎ ((e ≡ Form) × (all_of subscriber_entry_of (items_view c.deref.result.now) ≡ None))) (λ e. (e ≡ Memory) ⊎ ((e ≡ Form) × (optional (array_of subscriber_entry_of) (codes "subscriber") ms ≡ None))) (λ e p.
    ⊎_elim inl (λ h. inr (
      h.0,
      whole
          ∙ ap (λ vs. option_map Some (all_of subscriber_entry_of (items_view vs))) (sym c.deref.ensures.value)
          ∙ ap (option_map Some) h.1,
    )) p) c.entries_from.ensures.refused

pub returns-in-None-as_array-clause-refused : goal.returns-in-None-as_array-clause-refused
returns-in-None-as_array-clause-refused c = inr (refl, read_other subscriber_entry_of (codes "subscriber") _ _ c.in-Some.ensures c.in-None-as_array.ensures)
