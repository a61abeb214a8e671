-- The capcodes that a file's ids stand for are usable.
use Rattle.std.proofs.Common.{◌≡◌, ℕ, Bool, true, false, cond, not, ◌||◌, nat_lt, ℤ, pos, negsuc, List, [], ◌∷◌, map, length, Option, Some, None, Result, Ok, Err, refl, sym, ◌∙◌, ap, subst}
use Rattle.std.specs.Cmp.Lexicographic.{nat_list_cmp_total}
use Rattle.std.specs.FinMap.{get, get-from_entries, from_entries}
use Rattle.std.specs.FinMap.Entries.{find}
use Rattle.std.specs.List.{AllByRecursion}
use Rattle.std.specs.Ordering.{eq_by_cmp}
use Rattle.std.specs.Prelude.{All, option_and_then, option_map}
use Rattle.std.proofs.lemmas.List.Elements.{All-cons, All-nil}
use Rattle.toml.specs.Data.{Members}
use Rattle.codeword.specs.Capcodes.{IsUsable}
use Rattle.codeword.specs.declared.functions.Function.{Function}
use Rattle.subscribers.proofs.Directories.{id_cmp}
use Rattle.subscribers.proofs.Usable.{IsUsable-from_is_usable}
use Rattle.subscribers.specs.Entries.{IdEntry, a_group, a_subscriber, all_differ, capcodes_of, entry_id, group_of, id_entries, if_all_differ, is_between, is_id, is_usable, capcode_of, function_of_class, members_of, most_members, target_of, with_class, with_capcodes, subscriber_of, with_earlier, Listed, listed_as, listed, joined_results, all_or_first_fault, listed_all, map_of, ids_of}
use Rattle.subscribers.specs.Form.{SubscriberEntry, GroupEntry, Form, form_of, version_of}
use Rattle.subscribers.specs.Parts.{Ids, Parts, Target}
use Rattle.subscribers.specs.Settings.{most_settings_bytes, most_entries, most_groups, is_password_or_none, cells_in_range, parts_of, with_cells, settings_of_form, of_form, of_version, settings_of_tree, of_tree, tree_of, settings_of}
use Rattle.subscribers.specs.declared.faults.SettingsFault.{SettingsFault}
use Rattle.subscribers.specs.declared.faults.SettingsFault.TheVariants.{Long, Password, TooMany, Id, IdTwice, Capcode, Class, GroupId, GroupIdTwice, GroupMembers, GroupClass}
use Rattle.subscribers.specs.declared.document.Version.{Version}

-- all capcodes of what an id stands for are usable
abbrev AreUsable : Target → Type 0
AreUsable t = All IsUsable t.capcodes

-- all capcodes that are given are usable
abbrev pub GivesUsable : (List ℕ → Option Target) → Type 0
GivesUsable directory = (id : List ℕ) (t : Target) → directory id ≡ Some t → AreUsable t

-- what is there isn't a fault
pub no_fault : {A B : Type 0} (fault : SettingsFault) (x : A) → ◌≡◌ {A = Result A SettingsFault} (Err fault) (Ok x) → B
no_fault fault x h = absurd cc

some_same : {A : Type 0} (x y : A) → ◌≡◌ {A = Option A} (Some x) (Some y) → x ≡ y
some_same x y h = cc

ok_same : {A : Type 0} (x y : A) → ◌≡◌ {A = Result A SettingsFault} (Ok x) (Ok y) → x ≡ y
ok_same x y h = cc

-- a test for a fault that didn't come
pub Ok-from_else : {A : Type 0} (b : Bool) (fault : SettingsFault) (r : Result A SettingsFault) (x : A) → cond b (Err fault) r ≡ Ok x → r ≡ Ok x
Ok-from_else true fault r x h = no_fault fault x h
Ok-from_else false fault r x h = h

pub Ok-from_then : {A : Type 0} (b : Bool) (fault : SettingsFault) (r : Result A SettingsFault) (x : A) → cond b r (Err fault) ≡ Ok x → r ≡ Ok x
Ok-from_then true fault r x h = h
Ok-from_then false fault r x h = no_fault fault x h

-- ---- one entry

IsUsable-from_test : (n k : ℕ) (b : Bool) → is_usable n ≡ b → cond b (Some n) None ≡ Some k → IsUsable k
IsUsable-from_test n k true e h = subst IsUsable (let same : n ≡ k = cc in same) (IsUsable-from_is_usable n e)
IsUsable-from_test n k false e h = absurd cc

IsUsable-from_capcode_of : (c : ℤ) (k : ℕ) → capcode_of c ≡ Some k → IsUsable k
IsUsable-from_capcode_of (pos n) k h = IsUsable-from_test n k (is_usable n) refl h
IsUsable-from_capcode_of (negsuc n) k h = absurd cc

AreUsable-one : (o : Option ℕ) (cs : List ℕ) → ((k : ℕ) → o ≡ Some k → IsUsable k) → option_map (λ c. c ∷ []) o ≡ Some cs → All IsUsable cs
AreUsable-one None cs u h = absurd cc
AreUsable-one (Some k) cs u h = subst (All IsUsable) (some_same (k ∷ []) cs h) (All-cons IsUsable k [] (u k refl) (All-nil IsUsable))

-- all numbers of a group
AreUsable-both : (o : Option ℕ) (rest : Option (List ℕ)) (cs : List ℕ) → ((k : ℕ) → o ≡ Some k → IsUsable k) → ((ks : List ℕ) → rest ≡ Some ks → All IsUsable ks)
    → option_and_then (λ c. option_map (λ cs. c ∷ cs) rest) o ≡ Some cs → All IsUsable cs
AreUsable-both None rest cs u more h = absurd cc
AreUsable-both (Some k) None cs u more h = absurd cc
AreUsable-both (Some k) (Some ks) cs u more h = subst (All IsUsable) (some_same (k ∷ ks) cs h) (All-cons IsUsable k ks (u k refl) (more ks refl))

AreUsable-capcodes_of : (ns : List ℤ) (cs : List ℕ) → capcodes_of ns ≡ Some cs → All IsUsable cs
AreUsable-capcodes_of [] cs h = subst (All IsUsable) (some_same [] cs h) (All-nil IsUsable)
AreUsable-capcodes_of (n ∷ ns) cs h = AreUsable-both (capcode_of n) (capcodes_of ns) cs (IsUsable-from_capcode_of n) (AreUsable-capcodes_of ns) h

AreUsable-differ : (b : Bool) (ks cs : List ℕ) → All IsUsable ks → cond b (Some ks) None ≡ Some cs → All IsUsable cs
AreUsable-differ true ks cs u h = subst (All IsUsable) (some_same ks cs h) u
AreUsable-differ false ks cs u h = absurd cc

AreUsable-if_all_differ : (o : Option (List ℕ)) (cs : List ℕ) → ((ks : List ℕ) → o ≡ Some ks → All IsUsable ks) → option_and_then if_all_differ o ≡ Some cs → All IsUsable cs
AreUsable-if_all_differ None cs u h = absurd cc
AreUsable-if_all_differ (Some ks) cs u h = AreUsable-differ (all_differ ks) ks cs (u ks refl) h

AreUsable-in_range : (b : Bool) (o : Option (List ℕ)) (cs : List ℕ) → (o ≡ Some cs → All IsUsable cs) → cond b o None ≡ Some cs → All IsUsable cs
AreUsable-in_range true o cs u h = u h
AreUsable-in_range false o cs u h = absurd cc

AreUsable-members_of : (ns : List ℤ) (cs : List ℕ) → members_of ns ≡ Some cs → All IsUsable cs
unfolding members_of
AreUsable-members_of ns cs h =
    AreUsable-in_range (is_between 1 most_members (length ns)) (option_and_then if_all_differ (capcodes_of ns)) cs (AreUsable-if_all_differ (capcodes_of ns) cs (AreUsable-capcodes_of ns)) h

AreUsable-with_class : (fault : SettingsFault) (ks : List ℕ) (f : Option Function) (t : Target) → All IsUsable ks → with_class fault ks f ≡ Ok t → AreUsable t
AreUsable-with_class fault ks None t u h = no_fault _ t h
AreUsable-with_class fault ks (Some f) t u h = subst AreUsable (ok_same _ t h) u

AreUsable-with_capcodes : (first second : SettingsFault) (o : Option (List ℕ)) (f : Option Function) (t : Target) → ((ks : List ℕ) → o ≡ Some ks → All IsUsable ks)
    → with_capcodes first second o f ≡ Ok t → AreUsable t
AreUsable-with_capcodes first second None f t u h = no_fault _ t h
AreUsable-with_capcodes first second (Some ks) f t u h = AreUsable-with_class second ks f t (u ks refl) h

AreUsable-subscriber_of : (n : ℕ) (twice : Bool) (e : SubscriberEntry) (t : Target) → subscriber_of n twice e ≡ Ok t → AreUsable t
unfolding subscriber_of
AreUsable-subscriber_of n twice e t h =
    let one : Option (List ℕ) = option_map (λ c. c ∷ []) (capcode_of e.capcode) in
    let rest : Result Target SettingsFault = with_capcodes (Capcode n) (Class n) one (function_of_class e.class) in
    AreUsable-with_capcodes (Capcode n) (Class n) one (function_of_class e.class) t (λ ks. AreUsable-one (capcode_of e.capcode) ks (IsUsable-from_capcode_of e.capcode))
    (Ok-from_else twice (IdTwice n) rest t (Ok-from_else (not (is_id e.id)) (Id n) (cond twice (Err (IdTwice n)) rest) t h))

AreUsable-group_of : (n : ℕ) (twice : Bool) (g : GroupEntry) (t : Target) → group_of n twice g ≡ Ok t → AreUsable t
unfolding group_of
AreUsable-group_of n twice g t h =
    let rest : Result Target SettingsFault = with_capcodes (GroupMembers n) (GroupClass n) (members_of g.capcodes) (function_of_class g.class) in
    AreUsable-with_capcodes (GroupMembers n) (GroupClass n) (members_of g.capcodes) (function_of_class g.class) t (AreUsable-members_of g.capcodes)
    (Ok-from_else twice (GroupIdTwice n) rest t (Ok-from_else (not (is_id g.id)) (GroupId n) (cond twice (Err (GroupIdTwice n)) rest) t h))

AreUsable-target_of : (n : ℕ) (twice : Bool) (e : IdEntry) (t : Target) → target_of n twice e ≡ Ok t → AreUsable t
AreUsable-target_of n twice (a_subscriber e) t h = AreUsable-subscriber_of n twice e t h
AreUsable-target_of n twice (a_group g) t h = AreUsable-group_of n twice g t h

-- ---- all entries

-- the capcodes of these are usable
abbrev AllUsable : List Listed → Type 0
AllUsable ids = AllByRecursion (λ (i : Listed). AreUsable i.1) ids

AllUsable-joined : (id : List ℕ) (r : Result Target SettingsFault) (rest : Result (List Listed) SettingsFault) (ids : List Listed)
    → ((s : Target) → r ≡ Ok s → AreUsable s) → ((others : List Listed) → rest ≡ Ok others → AllUsable others)
    → joined_results (listed_as id r) rest ≡ Ok ids → AllUsable ids
AllUsable-joined id (Err fault) rest ids one more h = no_fault fault ids h
AllUsable-joined id (Ok s) (Err fault) ids one more h = no_fault fault ids h
AllUsable-joined id (Ok s) (Ok others) ids one more h = subst AllUsable (ok_same ((id, s) ∷ others) ids h) (one s refl, more others refl)

AllUsable-from_places : (ps : List (List IdEntry × IdEntry)) (ids : List Listed) → all_or_first_fault (map listed ps) ≡ Ok ids → AllUsable ids
AllUsable-from_places [] ids h = subst AllUsable (ok_same [] ids h) tt
AllUsable-from_places (p ∷ ps) ids h =
    AllUsable-joined (entry_id p.1) _ (all_or_first_fault (map listed ps)) ids (λ t. AreUsable-target_of _ _ p.1 t) (AllUsable-from_places ps) h

AllUsable-from_listed_all : (es : List IdEntry) (ids : List Listed) → listed_all es ≡ Ok ids → AllUsable ids
unfolding listed_all
AllUsable-from_listed_all es ids h = AllUsable-from_places (with_earlier es) ids h

-- ---- the map

AreUsable-first : (b : Bool) (t other : Target) (o : Option Target) → AreUsable other → (o ≡ Some t → AreUsable t) → cond b (Some other) o ≡ Some t → AreUsable t
AreUsable-first true t other o u later h = subst AreUsable (some_same other t h) u
AreUsable-first false t other o u later h = later h

AreUsable-find : (ids : List Listed) (id : List ℕ) (t : Target) → AllUsable ids → find id_cmp id ids ≡ Some t → AreUsable t
AreUsable-find [] id t u h = absurd cc
AreUsable-find (i ∷ ids) id t u h = AreUsable-first (eq_by_cmp id_cmp id i.0) t i.1 (find id_cmp id ids) u.0 (AreUsable-find ids id t u.1) h

GivesUsable-map_of : (r : Result (List Listed) SettingsFault) (d : Ids) → ((ids : List Listed) → r ≡ Ok ids → AllUsable ids) → map_of r ≡ Ok d → GivesUsable (get d)
GivesUsable-map_of (Err fault) d u h = no_fault fault d h
GivesUsable-map_of (Ok ids) d u h =
    subst (λ (m : Ids). GivesUsable (get m)) (ok_same (from_entries ids) d h)
    (λ id t e. AreUsable-find ids id t (u ids refl) (sym (get-from_entries nat_list_cmp_total ids id) ∙ e))

GivesUsable-ids_of : (es : List IdEntry) (d : Ids) → ids_of es ≡ Ok d → GivesUsable (get d)
GivesUsable-ids_of es d h = GivesUsable-map_of (listed_all es) d (AllUsable-from_listed_all es) h

-- ---- the settings

GivesUsable-parts_of : (cells : ℕ) (password : Option (List ℕ)) (r : Result Ids SettingsFault) (parts : Parts) → ((d : Ids) → r ≡ Ok d → GivesUsable (get d))
    → parts_of cells password r ≡ Ok parts → GivesUsable (get parts.ids)
GivesUsable-parts_of cells password (Err fault) parts u h = no_fault fault parts h
GivesUsable-parts_of cells password (Ok d) parts u h = subst (λ (p : Parts). GivesUsable (get p.ids)) (ok_same _ parts h) (u d refl)

GivesUsable-with_cells : (form : Form) (o : Option ℕ) (parts : Parts) → with_cells form o ≡ Ok parts → GivesUsable (get parts.ids)
GivesUsable-with_cells form None parts h = no_fault _ parts h
GivesUsable-with_cells form (Some cells) parts h =
    let entries : List IdEntry = id_entries form.entries form.groups in
    GivesUsable-parts_of cells form.password (ids_of entries) parts (GivesUsable-ids_of entries)
    (Ok-from_else (nat_lt most_entries (length form.entries) || nat_lt most_groups (length form.groups)) TooMany (parts_of cells form.password (ids_of entries)) parts h)

GivesUsable-settings_of_form : (form : Form) (parts : Parts) → settings_of_form form ≡ Ok parts → GivesUsable (get parts.ids)
unfolding settings_of_form
GivesUsable-settings_of_form form parts h =
    GivesUsable-with_cells form (cells_in_range form.cells) parts (Ok-from_then (is_password_or_none form.password) Password (with_cells form (cells_in_range form.cells)) parts h)

GivesUsable-of_form : (o : Option Form) (parts : Parts) → of_form o ≡ Ok parts → GivesUsable (get parts.ids)
GivesUsable-of_form None parts h = no_fault _ parts h
GivesUsable-of_form (Some form) parts h = GivesUsable-settings_of_form form parts h

GivesUsable-of_version : (tree : Members) (r : Result Version SettingsFault) (parts : Parts) → of_version tree r ≡ Ok parts → GivesUsable (get parts.ids)
GivesUsable-of_version tree (Err fault) parts h = no_fault fault parts h
GivesUsable-of_version tree (Ok version) parts h = GivesUsable-of_form (form_of version tree) parts h

GivesUsable-settings_of_tree : (tree : Members) (parts : Parts) → settings_of_tree tree ≡ Ok parts → GivesUsable (get parts.ids)
unfolding settings_of_tree
GivesUsable-settings_of_tree tree parts h = GivesUsable-of_version tree (version_of tree) parts h

GivesUsable-of_tree : (o : Option Members) (parts : Parts) → of_tree o ≡ Ok parts → GivesUsable (get parts.ids)
GivesUsable-of_tree None parts h = no_fault _ parts h
GivesUsable-of_tree (Some tree) parts h = GivesUsable-settings_of_tree tree parts h

-- all capcodes that the map gives are usable
pub GivesUsable-settings_of : (bytes : List ℕ) (parts : Parts) → settings_of bytes ≡ Ok parts → GivesUsable (get parts.ids)
unfolding settings_of
GivesUsable-settings_of bytes parts h =
    GivesUsable-of_tree (tree_of bytes) parts (Ok-from_else (nat_lt most_settings_bytes (length bytes)) Long (of_tree (tree_of bytes)) parts h)
