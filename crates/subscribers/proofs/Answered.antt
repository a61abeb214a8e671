-- The answer of `read`, by what each of its steps answers.
use Rattle.std.proofs.Common.{◌≡◌, ℕ, ◌<◌, ◌≤◌, Bool, true, false, cond, nat_lt, List, length, Option, Some, None, Result, Ok, Err, ◌||◌, ◌⊎◌, inl, inr, ⊎_elim, arith, refl, sym, ap}
use Rattle.std.proofs.lemmas.Bool.Decides.{nat_tests}
use Rattle.toml.specs.Data.{Members}
use Rattle.toml.specs.Parse.{parse_document}
use Rattle.std.proofs.lemmas.Str.{IsUtf8-from_is_utf8, is_utf8-from_IsUtf8}
use Rattle.std.specs.Str.{IsUtf8, is_utf8}
use Rattle.subscribers.specs.declared.faults.SettingsFault.{SettingsFault}
use Rattle.subscribers.specs.declared.faults.SettingsFault.TheVariants.{Long, NotToml, Form as FormFault, Password, Cells, TooMany}
use Rattle.subscribers.specs.declared.document.Version.{Version}
use Rattle.subscribers.specs.Entries.{id_entries, ids_of}
use Rattle.subscribers.specs.Form.{Form, form_of, version_of}
use Rattle.subscribers.specs.Parts.{Ids, Parts}
use Rattle.subscribers.specs.Settings.{most_settings_bytes, most_entries, most_groups, is_password_or_none, cells_in_range, parts_of, with_cells, settings_of_form, settings_of_tree, of_tree, tree_of, settings_of, IsOrMemory}

-- A test that is decided.
above : (a b : ℕ) → a < b → nat_lt a b ≡ true
above a b h = grind (arith, nat_tests)

not_above : (a b : ℕ) → b ≤ a → nat_lt a b ≡ false
not_above a b h = grind (arith, nat_tests)

too_many : (n m : ℕ) → (most_entries < n) ⊎ (most_groups < m) → (nat_lt most_entries n || nat_lt most_groups m) ≡ true
too_many n m (inl h) = rw (above most_entries n h)
too_many n m (inr h) = rw (above most_groups m h) (or_true (nat_lt most_entries n))
  where
    or_true : (b : Bool) → (b || true) ≡ true
    or_true true = refl
    or_true false = refl

-- What the password's step answered, as a test.
no_password : {A B : Type 0} (b : Bool) (x : A) (r : Result B SettingsFault) (fault : SettingsFault) → Err fault ≡ cond b (Ok x) (Err Password) → Err fault ≡ cond b r (Err Password)
no_password true x r fault h = absurd (cc)
no_password false x r fault h = cc

pub password_true : {A : Type 0} (b : Bool) (x y : A) → Ok y ≡ cond b (Ok x) (Err Password) → (b ≡ true) × (y ≡ x)
password_true true x y h = (refl, cc)
password_true false x y h = absurd (cc)

module _ (form : Form) where
  pub refused_password : (fault : SettingsFault) → Err fault ≡ cond (is_password_or_none form.password) (Ok form.password) (Err Password) → Err fault ≡ settings_of_form form
  unfolding settings_of_form
  refused_password fault h = no_password (is_password_or_none form.password) form.password (with_cells form (cells_in_range form.cells)) fault h

  pub refused_cells : is_password_or_none form.password ≡ true → None ≡ cells_in_range form.cells → Err Cells ≡ settings_of_form form
  unfolding settings_of_form
  refused_cells p c = rw (p, ← c)

  pub refused_many : (n : ℕ) → is_password_or_none form.password ≡ true → Some n ≡ cells_in_range form.cells → (most_entries < length form.entries) ⊎ (most_groups < length form.groups) → Err TooMany ≡ settings_of_form form
  unfolding settings_of_form
  refused_many n p c many = rw (p, ← c, too_many (length form.entries) (length form.groups) many)

  pub from_ids : (n : ℕ) → is_password_or_none form.password ≡ true → Some n ≡ cells_in_range form.cells → length form.entries ≤ most_entries → length form.groups ≤ most_groups → parts_of n form.password (ids_of (id_entries form.entries form.groups)) ≡ settings_of_form form
  unfolding settings_of_form
  from_ids n p c few few_groups = rw (p, ← c, not_above most_entries (length form.entries) few, not_above most_groups (length form.groups) few_groups)

-- The answer by the version, and then by the form.
module _ (tree : Members) where
  pub settings_of_tree-no_version : (fault : SettingsFault) → Err fault ≡ version_of tree → Err fault ≡ settings_of_tree tree
  unfolding settings_of_tree
  settings_of_tree-no_version fault h = rw (← h)

  pub settings_of_tree-no_form : (version : Version) → Ok version ≡ version_of tree → form_of version tree ≡ None → Err FormFault ≡ settings_of_tree tree
  unfolding settings_of_tree
  settings_of_tree-no_form version h f = rw (← h, f)

  pub settings_of_tree-form : (version : Version) (form : Form) → Ok version ≡ version_of tree → form_of version tree ≡ Some form → settings_of_form form ≡ settings_of_tree tree
  unfolding settings_of_tree
  settings_of_tree-form version form h f = rw (← h, f)

-- The map that was made, and the fault in its place.
pub made_ids : (ids : Ids) (r : Result Ids SettingsFault) → IsOrMemory (Ok ids) r → Ok ids ≡ r
made_ids ids r h = ⊎_elim (λ e. absurd (cc)) (λ e. e) h

pub refused_ids : (n : ℕ) (password : Option (List ℕ)) (fault : SettingsFault) (r : Result Ids SettingsFault) → IsOrMemory (Err fault) r → (let a : Result Parts SettingsFault = Err fault in IsOrMemory a (parts_of n password r))
refused_ids n password fault r h = ⊎_elim (λ e. inl (cc)) (λ e. inr (ap (parts_of n password) e)) h

-- The document that was read, and the fault in its place.
pub read_tree : (bytes : List ℕ) (tree : Members) → IsUtf8 bytes → parse_document bytes ≡ Some tree → tree_of bytes ≡ Some tree
read_tree bytes tree u p = rw (is_utf8-from_IsUtf8 bytes u) p

no_tree_by : (b : Bool) (o : Option Members) → (b ≡ true → o ≡ None) → cond b o None ≡ None
no_tree_by true o h = h refl
no_tree_by false o h = refl

pub no_tree : (bytes : List ℕ) → (IsUtf8 bytes → parse_document bytes ≡ None) → tree_of bytes ≡ None
no_tree bytes h = no_tree_by (is_utf8 bytes) (parse_document bytes) (λ u. h (IsUtf8-from_is_utf8 bytes u))

-- The answer for the bytes.
module _ (bytes : List ℕ) where
  pub settings_of-long : most_settings_bytes < length bytes → Err Long ≡ settings_of bytes
  unfolding settings_of
  settings_of-long h = rw (above most_settings_bytes (length bytes) h)

  pub settings_of-no_tree : length bytes ≤ most_settings_bytes → tree_of bytes ≡ None → Err NotToml ≡ settings_of bytes
  unfolding settings_of
  settings_of-no_tree h t = rw (not_above most_settings_bytes (length bytes) h) (sym (ap of_tree t))

  pub settings_of-tree : (tree : Members) → length bytes ≤ most_settings_bytes → tree_of bytes ≡ Some tree → settings_of_tree tree ≡ settings_of bytes
  unfolding settings_of
  settings_of-tree tree h t = rw (not_above most_settings_bytes (length bytes) h) (sym (ap of_tree t))
