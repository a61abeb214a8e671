-- The settings that a file gives, or why it is refused.
use Rattle.std.specs.Prelude.{ℕ, ℤ, pos, negsuc, Bool, true, ◌&&◌, ◌||◌, ◌==◌, nat_lt, ◌≡◌, ◌⊎◌, List, length, Option, Some, None, Result, Ok, Err, if◌then◌else◌}
use Rattle.std.specs.List.{list_all}
use Rattle.std.specs.Str.{is_utf8}
use Rattle.toml.specs.Data.{Members}
use Rattle.toml.specs.Parse.{parse_document}
use Rattle.subscribers.specs.declared.faults.SettingsFault.{SettingsFault}
use Rattle.subscribers.specs.declared.faults.SettingsFault.TheVariants.{Long, NotToml, Form as FormFault, Password, Cells, TooMany, Memory}
use Rattle.subscribers.specs.declared.document.Version.{Version}
use Rattle.subscribers.specs.Form.{Form, form_of, version_of}
use Rattle.subscribers.specs.Entries.{is_between, id_entries, ids_of}
use Rattle.subscribers.specs.Parts.{Ids, Parts}

-- The limits: bytes of a file, cells, subscribers, groups.
abbrev pub most_settings_bytes : ℕ
most_settings_bytes = 1048576

abbrev pub most_cells : ℕ
most_cells = 65536

abbrev pub most_entries : ℕ
most_entries = 10000

abbrev pub most_groups : ℕ
most_groups = 1000

-- A password is six characters from `!` to `~`.
abbrev pub is_password : List ℕ → Bool
is_password text = (length text == 6) && list_all (is_between 33 126) text

abbrev pub is_password_or_none : Option (List ℕ) → Bool
is_password_or_none None = true
is_password_or_none (Some text) = is_password text

-- A number of cells, where it is in its range.
abbrev pub cells_in_range : ℤ → Option ℕ
cells_in_range (pos n) = if is_between 1 most_cells n then Some n else None
cells_in_range (negsuc n) = None

-- The settings with these cells, this password and these ids.
abbrev pub parts_of : ℕ → Option (List ℕ) → Result Ids SettingsFault → Result Parts SettingsFault
parts_of cells password (Ok ids) = Ok (record { cells = cells; password = password; ids = ids })
parts_of cells password (Err fault) = Err fault

-- What a file of the right form gives: Password, Cells and TooMany come in this order, and then the first fault of an entry.
abbrev pub with_cells : Form → Option ℕ → Result Parts SettingsFault
with_cells form None = Err Cells
with_cells form (Some cells) =
    if nat_lt most_entries (length form.entries) || nat_lt most_groups (length form.groups) then Err TooMany
    else parts_of cells form.password (ids_of (id_entries form.entries form.groups))

unfoldable pub settings_of_form : Form → Result Parts SettingsFault
settings_of_form form = if is_password_or_none form.password then with_cells form (cells_in_range form.cells) else Err Password

-- What a document gives.
abbrev pub of_form : Option Form → Result Parts SettingsFault
of_form None = Err FormFault
of_form (Some form) = settings_of_form form

-- What a document gives by its version. Version comes before Form.
abbrev pub of_version : Members → Result Version SettingsFault → Result Parts SettingsFault
of_version tree (Ok version) = of_form (form_of version tree)
of_version tree (Err fault) = Err fault

unfoldable pub settings_of_tree : Members → Result Parts SettingsFault
settings_of_tree tree = of_version tree (version_of tree)

-- The document that the bytes are: UTF-8 that `toml` reads.
abbrev pub tree_of : List ℕ → Option Members
tree_of bytes = if is_utf8 bytes then parse_document bytes else None

abbrev pub of_tree : Option Members → Result Parts SettingsFault
of_tree None = Err NotToml
of_tree (Some tree) = settings_of_tree tree

-- What the bytes of a file give.
unfoldable pub settings_of : List ℕ → Result Parts SettingsFault
settings_of bytes = if nat_lt most_settings_bytes (length bytes) then Err Long else of_tree (tree_of bytes)

-- The answer is the defined one, or there was no memory.
abbrev pub IsOrMemory : {A : Type 0} → Result A SettingsFault → Result A SettingsFault → Type 0
IsOrMemory answer defined = (answer ≡ Err Memory) ⊎ (answer ≡ defined)
