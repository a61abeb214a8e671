-- The subscriber or the group that a settings file is refused for is one of the first 10,000, so that the line about it is short.
use Rattle.std.proofs.Common.{◌≡◌, ◌⊎◌, inl, inr, ℕ, ℤ, suc, ◌+◌, ◌≤◌, nat_lt, Bool, true, false, cond, not, ◌||◌, List, [], ◌∷◌, ◌++◌, map, length, length-append, codes, decimal, Option, Some, None, Result, Ok, Err, refl, ap, subst, arith}
use Rattle.std.proofs.lemmas.Bool.Decides.{nat_tests}
use Rattle.std.proofs.lemmas.Fmt.{length-decimal-le}
use Rattle.std.proofs.lemmas.List.Sums.{sum_by-append}
use Rattle.std.specs.List.{AllByRecursion}
use Rattle.std.specs.Prelude.{count_by, option_map}
use Rattle.toml.specs.Data.{Members, as_integer}
use Rattle.codeword.specs.declared.functions.Function.{Function}
use Rattle.subscribers.specs.Entries.{IdEntry, a_group, a_subscriber, entry_id, entry_number, group_of, id_entries, is_id, capcode_of, function_of_class, is_group_entry, members_of, target_of, with_class, with_capcodes, subscriber_of, with_earlier, Listed, listed_as, listed, joined_results, all_or_first_fault, listed_all, map_of, ids_of}
use Rattle.subscribers.specs.Form.{SubscriberEntry, GroupEntry, Form, form_of, named_version, optional, version_by, version_of, version_with}
use Rattle.subscribers.specs.Parts.{Ids, Target}
use Rattle.subscribers.specs.Settings.{most_settings_bytes, most_entries, most_groups, is_password_or_none, cells_in_range, parts_of, with_cells, settings_of_form, of_form, of_version, settings_of_tree, of_tree, tree_of, settings_of}
use Rattle.subscribers.specs.declared.faults.SettingsFault.{SettingsFault}
use Rattle.subscribers.specs.declared.faults.SettingsFault.TheVariants as Fault
use Rattle.subscribers.specs.declared.document.Version.{Version}
use Rattle.station.specs.Outcomes.{settings_line}

-- the subscriber or the group that a fault names, or 0
abbrev number : SettingsFault → ℕ
number (Fault.Id n) = n
number (Fault.IdTwice n) = n
number (Fault.Capcode n) = n
number (Fault.Class n) = n
number (Fault.GroupId n) = n
number (Fault.GroupIdTwice n) = n
number (Fault.GroupMembers n) = n
number (Fault.GroupClass n) = n
number other = 0

same_fault : {A : Type 0} (first fault : SettingsFault) → ◌≡◌ {A = Result A SettingsFault} (Err first) (Err fault) → first ≡ fault
same_fault first fault h = cc

-- a fault that comes at once
at_once : {A : Type 0} (m : ℕ) (first fault : SettingsFault) → number first ≤ m → ◌≡◌ {A = Result A SettingsFault} (Err first) (Err fault) → number fault ≤ m
at_once m first fault few h = subst (λ (f : SettingsFault). number f ≤ m) (same_fault first fault h) few

-- a fault, or what comes else
or_else : {A : Type 0} (b : Bool) (m : ℕ) (first fault : SettingsFault) (r : Result A SettingsFault) → number first ≤ m → (r ≡ Err fault → number fault ≤ m)
    → cond b (Err first) r ≡ Err fault → number fault ≤ m
or_else true m first fault r few rest h = at_once m first fault few h
or_else false m first fault r few rest h = rest h

-- what comes, or else a fault
and_else : {A : Type 0} (b : Bool) (m : ℕ) (first fault : SettingsFault) (r : Result A SettingsFault) → number first ≤ m → (r ≡ Err fault → number fault ≤ m)
    → cond b r (Err first) ≡ Err fault → number fault ≤ m
and_else true m first fault r few rest h = rest h
and_else false m first fault r few rest h = at_once m first fault few h

-- ---- one entry

class_number : (n : ℕ) (second : SettingsFault) (capcodes : List ℕ) (f : Option Function) (fault : SettingsFault) → number second ≤ n → with_class second capcodes f ≡ Err fault → number fault ≤ n
class_number n second capcodes None fault few h = at_once n second fault few h
class_number n second capcodes (Some f) fault few h = absurd cc

capcodes_number : (n : ℕ) (first second : SettingsFault) (cs : Option (List ℕ)) (f : Option Function) (fault : SettingsFault) → number first ≤ n → number second ≤ n
    → with_capcodes first second cs f ≡ Err fault → number fault ≤ n
capcodes_number n first second None f fault few also h = at_once n first fault few h
capcodes_number n first second (Some cs) f fault few also h = class_number n second cs f fault also h

subscriber_number : (n : ℕ) (twice : Bool) (e : SubscriberEntry) (fault : SettingsFault) → subscriber_of n twice e ≡ Err fault → number fault ≤ n
unfolding subscriber_of
subscriber_number n twice e fault h =
    let one : Option (List ℕ) = option_map (λ c. c ∷ []) (capcode_of e.capcode) in
    let rest : Result Target SettingsFault = with_capcodes (Fault.Capcode n) (Fault.Class n) one (function_of_class e.class) in
    or_else (not (is_id e.id)) n (Fault.Id n) fault (cond twice (Err (Fault.IdTwice n)) rest) (omega arith)
    (or_else twice n (Fault.IdTwice n) fault rest (omega arith)
    (capcodes_number n (Fault.Capcode n) (Fault.Class n) one (function_of_class e.class) fault (omega arith) (omega arith))) h

group_number : (n : ℕ) (twice : Bool) (g : GroupEntry) (fault : SettingsFault) → group_of n twice g ≡ Err fault → number fault ≤ n
unfolding group_of
group_number n twice g fault h =
    let rest : Result Target SettingsFault = with_capcodes (Fault.GroupMembers n) (Fault.GroupClass n) (members_of g.capcodes) (function_of_class g.class) in
    or_else (not (is_id g.id)) n (Fault.GroupId n) fault (cond twice (Err (Fault.GroupIdTwice n)) rest) (omega arith)
    (or_else twice n (Fault.GroupIdTwice n) fault rest (omega arith)
    (capcodes_number n (Fault.GroupMembers n) (Fault.GroupClass n) (members_of g.capcodes) (function_of_class g.class) fault (omega arith) (omega arith))) h

target_number : (n : ℕ) (twice : Bool) (e : IdEntry) (fault : SettingsFault) → target_of n twice e ≡ Err fault → number fault ≤ n
target_number n twice (a_subscriber e) fault h = subscriber_number n twice e fault h
target_number n twice (a_group g) fault h = group_number n twice g fault h

-- ---- all entries

-- how many entries of its own array stand before an entry, of so many subscribers and groups
abbrev before : ℕ → ℕ → IdEntry → ℕ
before subscribers groups (a_subscriber e) = subscribers
before subscribers groups (a_group g) = groups

-- each number is at most this, where so many subscribers and groups stand before all entries
abbrev AreNumbered : ℕ → ℕ → ℕ → List (List IdEntry × IdEntry) → Type 0
AreNumbered m subscribers groups ps = AllByRecursion (λ (p : List IdEntry × IdEntry). entry_number p.0 p.1 + before subscribers groups p.1 ≤ m) ps

-- the subscribers and the groups of entries
abbrev subscribers_in : List IdEntry → ℕ
subscribers_in es = count_by (λ x. not (is_group_entry x)) es

abbrev groups_in : List IdEntry → ℕ
groups_in es = count_by is_group_entry es

count-append : (p : IdEntry → Bool) (xs ys : List IdEntry) → count_by p (xs ++ ys) ≡ count_by p xs + count_by p ys
count-append p xs ys = sum_by-append (λ x. cond (p x) 1 0) xs ys

count-cons : (p : IdEntry → Bool) (e : IdEntry) (es : List IdEntry) → count_by p (e ∷ es) ≡ count_by p (e ∷ []) + count_by p es
count-cons p e es = count-append p (e ∷ []) es

-- an entry in front adds one to the numbers of its own array
after_one : (e : IdEntry) (m subscribers groups : ℕ) (earlier : List IdEntry) (x : IdEntry)
    → entry_number earlier x + before (subscribers_in (e ∷ []) + subscribers) (groups_in (e ∷ []) + groups) x ≤ m
    → entry_number (e ∷ earlier) x + before subscribers groups x ≤ m
after_one e m subscribers groups earlier (a_subscriber x) h = omega (arith, h, count-cons (λ y. not (is_group_entry y)) e earlier)
after_one e m subscribers groups earlier (a_group x) h = omega (arith, h, count-cons is_group_entry e earlier)

numbered_later : (e : IdEntry) (m subscribers groups : ℕ) (ps : List (List IdEntry × IdEntry))
    → AreNumbered m (subscribers_in (e ∷ []) + subscribers) (groups_in (e ∷ []) + groups) ps → AreNumbered m subscribers groups (map (λ p. (e ∷ p.0, p.1)) ps)
numbered_later e m subscribers groups [] h = tt
numbered_later e m subscribers groups (p ∷ ps) h = (after_one e m subscribers groups p.0 p.1 h.0, numbered_later e m subscribers groups ps h.1)

first_number : (e : IdEntry) (es : List IdEntry) (m subscribers groups : ℕ) → subscribers_in (e ∷ es) + subscribers ≤ m → groups_in (e ∷ es) + groups ≤ m
    → entry_number [] e + before subscribers groups e ≤ m
first_number (a_subscriber e) es m subscribers groups few also = omega (arith, few, count-cons (λ y. not (is_group_entry y)) (a_subscriber e) es)
first_number (a_group g) es m subscribers groups few also = omega (arith, also, count-cons is_group_entry (a_group g) es)

are_numbered : (es : List IdEntry) (m subscribers groups : ℕ) → subscribers_in es + subscribers ≤ m → groups_in es + groups ≤ m → AreNumbered m subscribers groups (with_earlier es)
are_numbered [] m subscribers groups few also = tt
are_numbered (e ∷ es) m subscribers groups few also =
    let more = count-cons (λ y. not (is_group_entry y)) e es in
    let groups_more = count-cons is_group_entry e es in (
      first_number e es m subscribers groups few also,
      numbered_later e m subscribers groups (with_earlier es)
          (are_numbered es m (subscribers_in (e ∷ []) + subscribers) (groups_in (e ∷ []) + groups) (omega (arith, few, more)) (omega (arith, also, groups_more))),
    )

subscribers_counted : (es : List SubscriberEntry) → (subscribers_in (map a_subscriber es) ≡ length es) × (groups_in (map a_subscriber es) ≡ 0)
subscribers_counted [] = (refl, refl)
subscribers_counted (e ∷ es) =
    let own = subscribers_counted es in
    let more = count-cons (λ y. not (is_group_entry y)) (a_subscriber e) (map a_subscriber es) in
    let others = count-cons is_group_entry (a_subscriber e) (map a_subscriber es) in
    (omega (arith, own.0, more), omega (arith, own.1, others))

groups_counted : (gs : List GroupEntry) → (subscribers_in (map a_group gs) ≡ 0) × (groups_in (map a_group gs) ≡ length gs)
groups_counted [] = (refl, refl)
groups_counted (g ∷ gs) =
    let own = groups_counted gs in
    let more = count-cons (λ y. not (is_group_entry y)) (a_group g) (map a_group gs) in
    let others = count-cons is_group_entry (a_group g) (map a_group gs) in
    (omega (arith, own.0, more), omega (arith, own.1, others))

-- the entries of a file
entries_counted : (es : List SubscriberEntry) (gs : List GroupEntry) → (subscribers_in (id_entries es gs) ≡ length es) × (groups_in (id_entries es gs) ≡ length gs)
entries_counted es gs =
    let own = subscribers_counted es in
    let others = groups_counted gs in
    let both = count-append (λ y. not (is_group_entry y)) (map a_subscriber es) (map a_group gs) in
    let groups = count-append is_group_entry (map a_subscriber es) (map a_group gs) in
    (omega (arith, own.0, others.0, both), omega (arith, own.1, others.1, groups))

first_of_two : (id : List ℕ) (r : Result Target SettingsFault) (rest : Result (List Listed) SettingsFault) (fault : SettingsFault)
    → joined_results (listed_as id r) rest ≡ Err fault → (r ≡ Err fault) ⊎ (rest ≡ Err fault)
first_of_two id (Err first) rest fault h = inl (ap (λ (f : SettingsFault). Err f) (same_fault first fault h))
first_of_two id (Ok s) (Err first) fault h = inr h
first_of_two id (Ok s) (Ok others) fault h = absurd cc

number_here : (m : ℕ) (earlier : List IdEntry) (e : IdEntry) (fault : SettingsFault) → entry_number earlier e + before 0 0 e ≤ m → number fault ≤ entry_number earlier e → number fault ≤ m
number_here m earlier (a_subscriber e) fault few h = omega (arith, few, h)
number_here m earlier (a_group g) fault few h = omega (arith, few, h)

places_number : (m : ℕ) (ps : List (List IdEntry × IdEntry)) (fault : SettingsFault) → AreNumbered m 0 0 ps → all_or_first_fault (map listed ps) ≡ Err fault → number fault ≤ m
places_number m [] fault few h = absurd cc
places_number m (p ∷ ps) fault few h = elim (first_of_two (entry_id p.1) _ (all_or_first_fault (map listed ps)) fault h) [
  | inl here ↦ number_here m p.0 p.1 fault few.0 (target_number _ _ p.1 fault here)
  | inr later ↦ places_number m ps fault few.1 later
]

listed_number : (es : List SubscriberEntry) (gs : List GroupEntry) (fault : SettingsFault) → length es ≤ most_entries → length gs ≤ most_entries → listed_all (id_entries es gs) ≡ Err fault
    → number fault ≤ most_entries
unfolding listed_all
listed_number es gs fault few also h =
    let counted = entries_counted es gs in
    places_number most_entries (with_earlier (id_entries es gs)) fault
    (are_numbered (id_entries es gs) most_entries 0 0 (omega (arith, counted.0, few)) (omega (arith, counted.1, also))) h

map_number : (m : ℕ) (r : Result (List Listed) SettingsFault) (fault : SettingsFault) → (r ≡ Err fault → number fault ≤ m) → map_of r ≡ Err fault → number fault ≤ m
map_number m (Ok ids) fault few h = absurd cc
map_number m (Err first) fault few h = few (ap (λ (f : SettingsFault). Err f) (same_fault first fault h))

parts_number : (m cells : ℕ) (password : Option (List ℕ)) (r : Result Ids SettingsFault) (fault : SettingsFault) → (r ≡ Err fault → number fault ≤ m)
    → parts_of cells password r ≡ Err fault → number fault ≤ m
parts_number m cells password (Ok ids) fault few h = absurd cc
parts_number m cells password (Err first) fault few h = few (ap (λ (f : SettingsFault). Err f) (same_fault first fault h))

-- ---- the settings

cells_number : (form : Form) (o : Option ℕ) (fault : SettingsFault) → with_cells form o ≡ Err fault → number fault ≤ most_entries
cells_number form None fault h = at_once most_entries Fault.Cells fault (omega arith) h
cells_number form (Some cells) fault h = by_count (nat_lt most_entries (length form.entries)) (nat_lt most_groups (length form.groups)) refl refl h
  where
    ids : Result Ids SettingsFault
    ids = ids_of (id_entries form.entries form.groups)

    by_count : (b c : Bool) → nat_lt most_entries (length form.entries) ≡ b → nat_lt most_groups (length form.groups) ≡ c
        → cond (b || c) (Err Fault.TooMany) (parts_of cells form.password ids) ≡ Err fault → number fault ≤ most_entries
    by_count true c e d k = at_once most_entries Fault.TooMany fault (omega arith) k
    by_count false true e d k = at_once most_entries Fault.TooMany fault (omega arith) k
    by_count false false e d k =
        let few : length form.entries ≤ most_entries = grind (arith, nat_tests, e) in
        let groups : length form.groups ≤ most_groups = grind (arith, nat_tests, d) in
        parts_number most_entries cells form.password ids fault
        (map_number most_entries (listed_all (id_entries form.entries form.groups)) fault (listed_number form.entries form.groups fault few (omega (arith, groups)))) k

form_number : (form : Form) (fault : SettingsFault) → settings_of_form form ≡ Err fault → number fault ≤ most_entries
unfolding settings_of_form
form_number form fault h =
    and_else (is_password_or_none form.password) most_entries Fault.Password fault (with_cells form (cells_in_range form.cells)) (omega arith)
    (cells_number form (cells_in_range form.cells) fault) h

of_form_number : (o : Option Form) (fault : SettingsFault) → of_form o ≡ Err fault → number fault ≤ most_entries
of_form_number None fault h = at_once most_entries Fault.Form fault (omega arith) h
of_form_number (Some form) fault h = form_number form fault h

named_number : (o : Option Version) (fault : SettingsFault) → named_version o ≡ Err fault → number fault ≤ most_entries
named_number None fault h = at_once most_entries Fault.Version fault (omega arith) h
named_number (Some version) fault h = absurd cc

by_number : (o : Option (Option ℤ)) (fault : SettingsFault) → version_by o ≡ Err fault → number fault ≤ most_entries
by_number None fault h = at_once most_entries Fault.Form fault (omega arith) h
by_number (Some None) fault h = absurd cc
by_number (Some (Some n)) fault h = named_number (version_with n) fault h

version_number : (tree : Members) (fault : SettingsFault) → version_of tree ≡ Err fault → number fault ≤ most_entries
unfolding version_of
version_number tree fault h = by_number (optional as_integer (codes "version") tree) fault h

of_version_number : (tree : Members) (r : Result Version SettingsFault) (fault : SettingsFault) → (r ≡ Err fault → number fault ≤ most_entries) → of_version tree r ≡ Err fault
    → number fault ≤ most_entries
of_version_number tree (Ok version) fault few h = of_form_number (form_of version tree) fault h
of_version_number tree (Err first) fault few h = few (ap (λ (f : SettingsFault). Err f) (same_fault first fault h))

tree_number : (tree : Members) (fault : SettingsFault) → settings_of_tree tree ≡ Err fault → number fault ≤ most_entries
unfolding settings_of_tree
tree_number tree fault h = of_version_number tree (version_of tree) fault (version_number tree fault) h

of_tree_number : (o : Option Members) (fault : SettingsFault) → of_tree o ≡ Err fault → number fault ≤ most_entries
of_tree_number None fault h = at_once most_entries Fault.NotToml fault (omega arith) h
of_tree_number (Some tree) fault h = tree_number tree fault h

settings_number : (bytes : List ℕ) (fault : SettingsFault) → settings_of bytes ≡ Err fault → number fault ≤ most_entries
unfolding settings_of
settings_number bytes fault h =
    or_else (nat_lt most_settings_bytes (length bytes)) most_entries Fault.Long fault (of_tree (tree_of bytes)) (omega arith) (of_tree_number (tree_of bytes) fault) h

-- ---- the line

-- an entry's number has at most five digits
entry_few : (what : List ℕ) (n : ℕ) → length what ≤ 18 → n ≤ most_entries → length ((what ++ decimal n) ++ codes "\n") ≤ 24
entry_few what n short few =
    let d : length (decimal n) ≤ 5 = length-decimal-le 5 n (omega arith) (omega (arith, few)) (omega (arith, few)) in
    let a = length-append (what ++ decimal n) (codes "\n") in
    let b = length-append what (decimal n) in
    omega (arith, short, d, a, b)

line_few : (fault : SettingsFault) → number fault ≤ most_entries → length (settings_line fault) ≤ 42
line_few Fault.Long h = omega arith
line_few Fault.NotToml h = omega arith
line_few Fault.Version h = omega arith
line_few Fault.Form h = omega arith
line_few Fault.Password h = omega arith
line_few Fault.Cells h = omega arith
line_few Fault.TooMany h = omega arith
line_few (Fault.Id n) h = let e = entry_few (codes "id at entry ") n (omega arith) h in omega (arith, e)
line_few (Fault.IdTwice n) h = let e = entry_few (codes "id twice at entry ") n (omega arith) h in omega (arith, e)
line_few (Fault.Capcode n) h = let e = entry_few (codes "capcode at entry ") n (omega arith) h in omega (arith, e)
line_few (Fault.Class n) h = let e = entry_few (codes "class at entry ") n (omega arith) h in omega (arith, e)
line_few (Fault.GroupId n) h = let e = entry_few (codes "id at group ") n (omega arith) h in omega (arith, e)
line_few (Fault.GroupIdTwice n) h = let e = entry_few (codes "id twice at group ") n (omega arith) h in omega (arith, e)
line_few (Fault.GroupMembers n) h = let e = entry_few (codes "members at group ") n (omega arith) h in omega (arith, e)
line_few (Fault.GroupClass n) h = let e = entry_few (codes "class at group ") n (omega arith) h in omega (arith, e)
line_few Fault.Memory h = omega arith

-- the line about a settings file that is refused is short
pub refusal_few : (bytes : List ℕ) (fault : SettingsFault) → settings_of bytes ≡ Err fault → length (settings_line fault) ≤ 42
refusal_few bytes fault h = line_few fault (settings_number bytes fault h)
