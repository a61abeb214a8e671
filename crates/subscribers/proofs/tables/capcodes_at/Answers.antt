use Rattle.std.proofs.Common.{◌≡◌, ◌⊎◌, None, codes, Some, refl, inl, inr, ⊎_elim, sym, ap, ◌∙◌}
use Rattle.std.proofs.lemmas.Result.{IfOk-weaker, IfErr-weaker}
use Rattle.toml.specs.Data.{as_integer}
use Rattle.toml.specs.View.{items_view, table_view}
use Rattle.subscribers.specs.declared.faults.SettingsFault.TheVariants.{Memory, Form}
use Rattle.subscribers.specs.Form.{required, array_of, all_of}
use Rattle.subscribers.proofs.Forms.{required_none, required_other, required_array}
use Rattle.subscribers.proofs.tables.capcodes_at.Goals as goal

pub returns-in-None-clause-refused : goal.returns-in-None-clause-refused
returns-in-None-clause-refused c = inr (refl, required_none as_integer (codes "capcodes") _ c.in-None.ensures)

pub returns-in-Some-as_array-clause-form : goal.returns-in-Some-as_array-clause-form
returns-in-Some-as_array-clause-form c =
    let ms = table_view c.args.table.now in
    let whole = required_array as_integer (codes "capcodes") ms _ _ c.in-Some.ensures c.in-Some-as_array.ensures in
    IfOk-weaker c.integers_from.result (λ v. all_of as_integer (items_view c.deref.result.now) ≡ Some v.items) (λ v. required (array_of as_integer) (codes "capcodes") ms ≡ Some v.items) (λ v p.
    whole ∙ ap (λ vs. all_of as_integer (items_view vs)) (sym c.deref.ensures.value) ∙ p) c.integers_from.ensures.form

pub returns-in-Some-as_array-clause-refused : goal.returns-in-Some-as_array-clause-refused
returns-in-Some-as_array-clause-refused c =
    let ms = table_view c.args.table.now in
    let whole = required_array as_integer (codes "capcodes") ms _ _ c.in-Some.ensures c.in-Some-as_array.ensures in
    IfErr-weaker c.integers_from.result (λ e. (e ≡ Memory) ⊎ ((e ≡ Form) × (all_of as_integer (items_view c.deref.result.now) ≡ None))) (λ e. (e ≡ Memory) ⊎ ((e ≡ Form) × (required (array_of as_integer) (codes "capcodes") ms ≡ None))) (λ e p.
    ⊎_elim inl (λ h. inr (h.0, whole ∙ ap (λ vs. all_of as_integer (items_view vs)) (sym c.deref.ensures.value) ∙ h.1)) p) c.integers_from.ensures.refused

pub returns-in-None-as_array-clause-refused : goal.returns-in-None-as_array-clause-refused
returns-in-None-as_array-clause-refused c = inr (refl, required_other as_integer (codes "capcodes") _ _ c.in-Some.ensures c.in-None-as_array.ensures)
