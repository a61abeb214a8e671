-- The cells of a file's settings are at most 65,536.
use Rattle.std.proofs.Common.{◌≡◌, ℕ, ◌≤◌, Bool, true, false, ◌||◌, cond, nat_le, nat_lt, ℤ, pos, negsuc, List, length, Option, Some, None, Result, Ok, Err, refl, ap, arith}
use Rattle.std.proofs.lemmas.Bool.Decides.{nat_tests}
use Rattle.toml.specs.Data.{Members}
use Rattle.subscribers.specs.Entries.{id_entries, ids_of, is_between}
use Rattle.subscribers.specs.Form.{Form, form_of, version_of}
use Rattle.subscribers.specs.Parts.{Ids, Parts}
use Rattle.subscribers.specs.Settings.{cells_in_range, is_password_or_none, most_cells, most_entries, most_groups, most_settings_bytes, of_form, of_tree, of_version, parts_of, settings_of, settings_of_form, settings_of_tree, tree_of, with_cells}
use Rattle.subscribers.specs.declared.document.Version.{Version}
use Rattle.subscribers.specs.declared.faults.SettingsFault.{SettingsFault}
use Rattle.subscribers.specs.declared.faults.SettingsFault.TheVariants.{Long, Password, TooMany}
use Rattle.station.proofs.UsableSettings.{Ok-from_else, Ok-from_then, no_fault}

few_from_parts_of : (cells : ℕ) (password : Option (List ℕ)) (r : Result Ids SettingsFault) (parts : Parts) → cells ≤ 65536 → parts_of cells password r ≡ Ok parts → parts.cells ≤ 65536
few_from_parts_of cells password (Err fault) parts few h = no_fault fault parts h
few_from_parts_of cells password (Ok ids) parts few h =
    let e : record { cells = cells; password = password; ids = ids } ≡ parts = cc in
    let c = ap (λ (p : Parts). p.cells) e in
    omega (arith, c, few)

few_from_with_cells : (form : Form) (o : Option ℕ) (parts : Parts) → ((n : ℕ) → o ≡ Some n → n ≤ 65536) → with_cells form o ≡ Ok parts → parts.cells ≤ 65536
few_from_with_cells form None parts few h = no_fault _ parts h
few_from_with_cells form (Some cells) parts few h =
    let ids : Result Ids SettingsFault = ids_of (id_entries form.entries form.groups) in
    few_from_parts_of cells form.password ids parts (few cells refl)
    (Ok-from_else (nat_lt most_entries (length form.entries) || nat_lt most_groups (length form.groups)) TooMany (parts_of cells form.password ids) parts h)

few_in_range : (z : ℤ) (n : ℕ) → cells_in_range z ≡ Some n → n ≤ 65536
few_in_range (pos m) n h = by_test (is_between 1 most_cells m) refl h
  where
    by_test : (b : Bool) → is_between 1 most_cells m ≡ b → cond b (Some m) None ≡ Some n → n ≤ 65536
    by_test true e k = let same : m ≡ n = cc in grind (arith, nat_tests, e, same)
    by_test false e k = absurd cc
few_in_range (negsuc m) n h = absurd cc

few_from_form : (form : Form) (parts : Parts) → settings_of_form form ≡ Ok parts → parts.cells ≤ 65536
unfolding settings_of_form
few_from_form form parts h =
    few_from_with_cells form (cells_in_range form.cells) parts (few_in_range form.cells)
    (Ok-from_then (is_password_or_none form.password) Password (with_cells form (cells_in_range form.cells)) parts h)

few_from_of_form : (o : Option Form) (parts : Parts) → of_form o ≡ Ok parts → parts.cells ≤ 65536
few_from_of_form None parts h = no_fault _ parts h
few_from_of_form (Some form) parts h = few_from_form form parts h

few_from_of_version : (tree : Members) (r : Result Version SettingsFault) (parts : Parts) → of_version tree r ≡ Ok parts → parts.cells ≤ 65536
few_from_of_version tree (Err fault) parts h = no_fault fault parts h
few_from_of_version tree (Ok version) parts h = few_from_of_form (form_of version tree) parts h

few_from_settings_of_tree : (tree : Members) (parts : Parts) → settings_of_tree tree ≡ Ok parts → parts.cells ≤ 65536
unfolding settings_of_tree
few_from_settings_of_tree tree parts h = few_from_of_version tree (version_of tree) parts h

few_from_tree : (o : Option Members) (parts : Parts) → of_tree o ≡ Ok parts → parts.cells ≤ 65536
few_from_tree None parts h = no_fault _ parts h
few_from_tree (Some tree) parts h = few_from_settings_of_tree tree parts h

pub few_cells : (bytes : List ℕ) (parts : Parts) → settings_of bytes ≡ Ok parts → parts.cells ≤ 65536
unfolding settings_of
few_cells bytes parts h =
    few_from_tree (tree_of bytes) parts (Ok-from_else (nat_lt most_settings_bytes (length bytes)) Long (of_tree (tree_of bytes)) parts h)
