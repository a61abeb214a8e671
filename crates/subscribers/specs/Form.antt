-- The form of a settings file: its version, its keys, and the kinds of their values.
use Rattle.std.specs.Prelude.{ℕ, ℤ, pos, ◌==◌, Bool, List, [], ◌∷◌, codes, Option, Some, None, Result, Ok, Err, option_map, option_and_then, unwrap_or, if◌then◌else◌}
use Rattle.std.specs.List.{list_all, list_any}
use Rattle.std.specs.Str.{bytes_eq}
use Rattle.toml.specs.Data.{Data, Items, no_items, item, Members, no_members, member, get_member, as_str, as_integer, as_array, as_table}
use Rattle.subscribers.specs.declared.document.Version.{Version}
use Rattle.subscribers.specs.declared.document.Version.TheVariants.{One, Two}
use Rattle.subscribers.specs.declared.faults.SettingsFault.{SettingsFault}
use Rattle.subscribers.specs.declared.faults.SettingsFault.TheVariants.{Version as VersionFault, Form as FormFault}

-- An entry: one table of the array `subscriber`.
pub record SubscriberEntry : Type 0 where
  pub id : List ℕ
  pub capcode : ℤ
  pub class : List ℕ

-- A group: one table of the array `group`.
pub record GroupEntry : Type 0 where
  pub id : List ℕ
  pub capcodes : List ℤ
  pub class : List ℕ

-- A file of the right form.
pub record Form : Type 0 where
  pub cells : ℤ
  pub password : Option (List ℕ)
  pub entries : List SubscriberEntry
  pub groups : List GroupEntry

-- The keys of a file of each version, those of an entry, and those of a group.
abbrev pub file_keys : Version → List (List ℕ)
file_keys One = codes "cells" ∷ codes "password" ∷ codes "subscriber" ∷ codes "version" ∷ []
file_keys Two = codes "group" ∷ codes "cells" ∷ codes "password" ∷ codes "subscriber" ∷ codes "version" ∷ []

abbrev pub entry_keys : List (List ℕ)
entry_keys = codes "id" ∷ codes "capcode" ∷ codes "class" ∷ []

abbrev pub group_keys : List (List ℕ)
group_keys = codes "id" ∷ codes "capcodes" ∷ codes "class" ∷ []

-- The keys that a table has.
abbrev pub keys_of : Members → List (List ℕ)
keys_of no_members = []
keys_of (member key d ms) = key ∷ keys_of ms

-- Each key of the table is one of the names.
unfoldable pub has_only : List (List ℕ) → Members → Bool
has_only names ms = list_all (λ key. list_any (bytes_eq key) names) (keys_of ms)

-- The value at a key that has to be there, of the kind that is asked for.
unfoldable pub required : {A : Type 0} → (Data → Option A) → List ℕ → Members → Option A
required kind key ms = option_and_then kind (get_member key ms)

-- The value at a key that may be missing: none, or one of the kind that is asked for.
abbrev pub of_kind : {A : Type 0} → (Data → Option A) → Option Data → Option (Option A)
of_kind kind None = Some None
of_kind kind (Some d) = option_map Some (kind d)

unfoldable pub optional : {A : Type 0} → (Data → Option A) → List ℕ → Members → Option (Option A)
optional kind key ms = of_kind kind (get_member key ms)

infixl 10 ◌>>=◌
abbrev ◌>>=◌ : {A B : Type 0} → Option A → (A → Option B) → Option B
o >>= f = option_and_then f o

-- The version that a number names, or none.
abbrev pub version_with : ℤ → Option Version
version_with (pos n) = if n == 1 then Some One else if n == 2 then Some Two else None
version_with other = None

-- The version of a file, by what stands at its key: without one it is the first. Version, where it is an integer that names none.
abbrev pub named_version : Option Version → Result Version SettingsFault
named_version None = Err VersionFault
named_version (Some version) = Ok version

abbrev pub version_by : Option (Option ℤ) → Result Version SettingsFault
version_by None = Err FormFault
version_by (Some None) = Ok One
version_by (Some (Some n)) = named_version (version_with n)

unfoldable pub version_of : Members → Result Version SettingsFault
version_of ms = version_by (optional as_integer (codes "version") ms)

-- A table with exactly the keys of an entry: two strings and an integer.
unfoldable pub entry_in : Members → Option SubscriberEntry
entry_in ms =
    if has_only entry_keys ms then
    required as_str (codes "id") ms >>= (λ i.
    required as_integer (codes "capcode") ms >>= (λ c.
    required as_str (codes "class") ms >>= (λ s.
    Some (record { id = i; capcode = c; class = s }))))
    else None

abbrev pub subscriber_entry_of : Data → Option SubscriberEntry
subscriber_entry_of d = as_table d >>= entry_in

-- All items of a kind, in their order; None where one isn't of it.
abbrev pub all_of : {A : Type 0} → (Data → Option A) → Items → Option (List A)
all_of kind no_items = Some []
all_of kind (item d ds) = kind d >>= (λ x. option_map (λ xs. x ∷ xs) (all_of kind ds))

-- An array whose items are all of a kind.
abbrev pub array_of : {A : Type 0} → (Data → Option A) → Data → Option (List A)
array_of kind d = as_array d >>= all_of kind

-- A table with exactly the keys of a group: two strings and an array of integers.
unfoldable pub group_in : Members → Option GroupEntry
group_in ms =
    if has_only group_keys ms then
    required as_str (codes "id") ms >>= (λ i.
    required (array_of as_integer) (codes "capcodes") ms >>= (λ cs.
    required as_str (codes "class") ms >>= (λ s.
    Some (record { id = i; capcodes = cs; class = s }))))
    else None

abbrev pub group_entry_of : Data → Option GroupEntry
group_entry_of d = as_table d >>= group_in

-- A file of a version: no key but those of the version, `cells` an integer, `password` a string where it stands, `subscriber` an array of
-- entries and `group` an array of groups where they stand.
unfoldable pub form_of : Version → Members → Option Form
form_of version ms =
    if has_only (file_keys version) ms then
    required as_integer (codes "cells") ms >>= (λ c.
    optional as_str (codes "password") ms >>= (λ p.
    optional (array_of subscriber_entry_of) (codes "subscriber") ms >>= (λ es.
    optional (array_of group_entry_of) (codes "group") ms >>= (λ gs.
    Some (record { cells = c; password = p; entries = unwrap_or es []; groups = unwrap_or gs [] })))))
    else None
