-- The rules of the entries.
use Rattle.std.specs.Prelude.{ℕ, suc, ◌^◌, ℤ, pos, negsuc, Bool, true, false, not, ◌&&◌, ◌==◌, nat_lt, nat_le, List, [], ◌∷◌, ◌++◌, map, length, count_by, codes, Option, Some, None, option_map, option_and_then, Result, Ok, Err, if◌then◌else◌}
use Rattle.std.specs.List.{list_all, list_any}
use Rattle.std.specs.FinMap.{from_entries}
use Rattle.std.specs.Str.{bytes_eq}
use Rattle.codeword.specs.Capcodes.{high_of, idle_high, sync_high}
use Rattle.codeword.specs.declared.functions.Function.{Function}
use Rattle.codeword.specs.declared.functions.Function.TheVariants.{Numeric, Tone1, Tone2, Alpha}
use Rattle.subscribers.specs.declared.faults.SettingsFault.{SettingsFault}
use Rattle.subscribers.specs.declared.faults.SettingsFault.TheVariants.{Id, IdTwice, Capcode, Class, GroupId, GroupIdTwice, GroupMembers, GroupClass}
use Rattle.subscribers.specs.Form.{SubscriberEntry, GroupEntry}
use Rattle.subscribers.specs.Parts.{Ids, Target}

-- A character from one to another.
abbrev pub is_between : ℕ → ℕ → ℕ → Bool
is_between first last c = nat_le first c && nat_le c last

-- An id is 1 to 10 digits.
abbrev pub is_id : List ℕ → Bool
is_id id = is_between 1 10 (length id) && list_all (is_between 48 57) id

-- A usable capcode, as a test.
abbrev pub is_usable : ℕ → Bool
is_usable n = nat_lt n (2 ^ 21) && (not (high_of n == idle_high) && not (high_of n == sync_high))

abbrev pub capcode_of : ℤ → Option ℕ
capcode_of (pos n) = if is_usable n then Some n else None
capcode_of (negsuc n) = None

-- The most capcodes of a group.
abbrev pub most_members : ℕ
most_members = 16

-- All of these numbers as capcodes, or none where one isn't usable.
abbrev pub capcodes_of : List ℤ → Option (List ℕ)
capcodes_of [] = Some []
capcodes_of (n ∷ ns) = option_and_then (λ c. option_map (λ cs. c ∷ cs) (capcodes_of ns)) (capcode_of n)

-- None of these stands twice.
abbrev pub all_differ : List ℕ → Bool
all_differ [] = true
all_differ (c ∷ cs) = not (list_any (λ x. c == x) cs) && all_differ cs

abbrev pub if_all_differ : List ℕ → Option (List ℕ)
if_all_differ cs = if all_differ cs then Some cs else None

-- The capcodes of a group: 1 to 16 usable ones that differ, or none.
unfoldable pub members_of : List ℤ → Option (List ℕ)
members_of numbers = if is_between 1 most_members (length numbers) then option_and_then if_all_differ (capcodes_of numbers) else None

-- The function that a class names.
abbrev pub function_of_class : List ℕ → Option Function
function_of_class class =
    if bytes_eq class (codes "numeric") then Some Numeric
    else if bytes_eq class (codes "tone1") then Some Tone1
    else if bytes_eq class (codes "tone2") then Some Tone2
    else if bytes_eq class (codes "alpha") then Some Alpha
    else None

-- These capcodes and this function; a fault for capcodes that aren't there, and then one for a function that isn't.
abbrev pub with_class : SettingsFault → List ℕ → Option Function → Result Target SettingsFault
with_class fault capcodes None = Err fault
with_class fault capcodes (Some function) = Ok (record { function = function; capcodes = capcodes })

abbrev pub with_capcodes : SettingsFault → SettingsFault → Option (List ℕ) → Option Function → Result Target SettingsFault
with_capcodes capcode class None function = Err capcode
with_capcodes capcode class (Some capcodes) function = with_class class capcodes function

-- The entry number n, whose id is one of the earlier ones or isn't: what the id stands for, or the first of its four faults.
unfoldable pub subscriber_of : ℕ → Bool → SubscriberEntry → Result Target SettingsFault
subscriber_of n twice e =
    if not (is_id e.id) then Err (Id n)
    else if twice then Err (IdTwice n)
    else with_capcodes (Capcode n) (Class n) (option_map (λ c. c ∷ []) (capcode_of e.capcode)) (function_of_class e.class)

-- The same of the group number n.
unfoldable pub group_of : ℕ → Bool → GroupEntry → Result Target SettingsFault
group_of n twice g =
    if not (is_id g.id) then Err (GroupId n)
    else if twice then Err (GroupIdTwice n)
    else with_capcodes (GroupMembers n) (GroupClass n) (members_of g.capcodes) (function_of_class g.class)

-- An entry that gives an id a meaning: a subscriber or a group.
pub data IdEntry : Type 0 where
  a_subscriber : SubscriberEntry → IdEntry
  a_group : GroupEntry → IdEntry

-- Its id.
abbrev pub entry_id : IdEntry → List ℕ
entry_id (a_subscriber e) = e.id
entry_id (a_group g) = g.id

-- It is a group.
abbrev pub is_group_entry : IdEntry → Bool
is_group_entry (a_subscriber e) = false
is_group_entry (a_group g) = true

-- Its number in its array, counted from 1, where these entries stand before it.
abbrev pub entry_number : List IdEntry → IdEntry → ℕ
entry_number earlier (a_subscriber e) = suc (count_by (λ x. not (is_group_entry x)) earlier)
entry_number earlier (a_group g) = suc (count_by is_group_entry earlier)

-- What its id stands for, or the first of its faults.
abbrev pub target_of : ℕ → Bool → IdEntry → Result Target SettingsFault
target_of n twice (a_subscriber e) = subscriber_of n twice e
target_of n twice (a_group g) = group_of n twice g

-- The entries of a file in the order in which they are judged: the subscribers, and then the groups.
abbrev pub id_entries : List SubscriberEntry → List GroupEntry → List IdEntry
id_entries es gs = map a_subscriber es ++ map a_group gs

-- Each entry of a list, with the entries before it.
abbrev pub with_earlier : List IdEntry → List (List IdEntry × IdEntry)
with_earlier [] = []
with_earlier (e ∷ es) = ([], e) ∷ map (λ p. (e ∷ p.0, p.1)) (with_earlier es)

-- An id with what it stands for.
abbrev pub Listed : Type 0
Listed = List ℕ × Target

abbrev pub listed_as : List ℕ → Result Target SettingsFault → Result Listed SettingsFault
listed_as id (Ok target) = Ok (id, target)
listed_as id (Err fault) = Err fault

-- What an entry adds to the map of ids, or its fault. An id is different from every earlier one.
abbrev pub listed : List IdEntry × IdEntry → Result Listed SettingsFault
listed p = listed_as (entry_id p.1) (target_of (entry_number p.0 p.1) (list_any (λ e. bytes_eq (entry_id p.1) (entry_id e)) p.0) p.1)

-- All of these, or the first fault.
abbrev pub before_all : {A : Type 0} → A → Result (List A) SettingsFault → Result (List A) SettingsFault
before_all x (Ok xs) = Ok (x ∷ xs)
before_all x (Err fault) = Err fault

abbrev pub joined_results : {A : Type 0} → Result A SettingsFault → Result (List A) SettingsFault → Result (List A) SettingsFault
joined_results (Ok x) rest = before_all x rest
joined_results (Err fault) rest = Err fault

abbrev pub all_or_first_fault : {A : Type 0} → List (Result A SettingsFault) → Result (List A) SettingsFault
all_or_first_fault [] = Ok []
all_or_first_fault (r ∷ rs) = joined_results r (all_or_first_fault rs)

-- What the entries add to the map of ids, in their order, or the fault of the first faulty entry.
unfoldable pub listed_all : List IdEntry → Result (List Listed) SettingsFault
listed_all es = all_or_first_fault (map listed (with_earlier es))

-- The finite map of the entries, or the fault of the first faulty entry.
abbrev pub map_of : Result (List Listed) SettingsFault → Result Ids SettingsFault
map_of (Ok ids) = Ok (from_entries ids)
map_of (Err fault) = Err fault

abbrev pub ids_of : List IdEntry → Result Ids SettingsFault
ids_of es = map_of (listed_all es)
