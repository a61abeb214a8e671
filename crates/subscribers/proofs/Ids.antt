-- The map of the entries, one entry after another.
use Rattle.std.proofs.Common.{◌≡◌, ℕ, Bool, true, false, cond, not, ◌||◌, List, [], ◌∷◌, ◌++◌, map, Option, Some, None, Result, Ok, Err, is_some, append-nil, refl, sym, ap, ◌∙◌}
use Rattle.std.proofs.lemmas.Map.Text.{is_eq-slice_cmp}
use Rattle.std.specs.Cmp.Lexicographic.{nat_list_cmp_total}
use Rattle.std.specs.FinMap.{get, insert, from_entries, get-from_entries, from_entries_push, slice_cmp-IsAntisymmetric, nat_cmp-IsAntisymmetric}
use Rattle.std.specs.FinMap.Entries.{find, is_some-find}
use Rattle.std.specs.List.{list_any}
use Rattle.std.specs.Ordering.{eq_by_cmp}
use Rattle.std.specs.Str.{bytes_eq}
use Rattle.subscribers.specs.Entries.{is_id, subscriber_of, group_of, IdEntry, a_subscriber, a_group, entry_id, entry_number, target_of, with_earlier, Listed, listed_as, listed, joined_results, all_or_first_fault, listed_all, map_of, ids_of}
use Rattle.subscribers.specs.Parts.{Ids, Target}
use Rattle.subscribers.specs.declared.faults.SettingsFault.{SettingsFault}
use Rattle.subscribers.specs.declared.faults.SettingsFault.TheVariants.{Id, IdTwice, GroupId, GroupIdTwice}
use Rattle.subscribers.proofs.Directories.{id_cmp}
use Rattle.subscribers.proofs.Places.{map_twice, behind, later, both, listed_all-append}

same_ok : {A : Type 0} (x y : A) → ◌≡◌ {A = Result A SettingsFault} (Ok x) (Ok y) → x ≡ y
same_ok x y h = cc

-- The ids of what the entries add are those of the entries.
first_key : (r : Result Target SettingsFault) (s : Result (List Listed) SettingsFault) (id : List ℕ) (rest : List (List ℕ)) (ids : List Listed) → ((ws : List Listed) → s ≡ Ok ws → map (λ i. i.0) ws ≡ rest)
    → joined_results (listed_as id r) s ≡ Ok ids → map (λ i. i.0) ids ≡ id ∷ rest
first_key (Ok x) (Ok ws) id rest ids more h = ap (map (λ i. i.0)) (sym (same_ok ((id, x) ∷ ws) ids h)) ∙ ap (λ l. id ∷ l) (more ws refl)
first_key (Ok x) (Err fault) id rest ids more h = absurd (cc)
first_key (Err fault) s id rest ids more h = absurd (cc)

keys_of_places : (ps : List (List IdEntry × IdEntry)) (ids : List Listed) → all_or_first_fault (map listed ps) ≡ Ok ids → map (λ i. i.0) ids ≡ map (λ p. entry_id p.1) ps
keys_of_places [] ids h = ap (map (λ i. i.0)) (sym (same_ok [] ids h))
keys_of_places (p ∷ ps) ids h = first_key _ (all_or_first_fault (map listed ps)) (entry_id p.1) _ ids (keys_of_places ps) h

ids_of_places : (es : List IdEntry) → map (λ p. entry_id p.1) (with_earlier es) ≡ map entry_id es
ids_of_places [] = refl
ids_of_places (e ∷ es) = ap (λ l. entry_id e ∷ l) (map_twice (later e) (λ p. entry_id p.1) (with_earlier es) ∙ ids_of_places es)

pub keys-listed_all : (es : List IdEntry) (ids : List Listed) → listed_all es ≡ Ok ids → map (λ i. i.0) ids ≡ map entry_id es
unfolding listed_all
keys-listed_all es ids h = keys_of_places (with_earlier es) ids h ∙ ids_of_places es

any_id : (id : List ℕ) (es : List IdEntry) → list_any (eq_by_cmp id_cmp id) (map entry_id es) ≡ list_any (λ e. bytes_eq id (entry_id e)) es
any_id id [] = refl
any_id id (e ∷ es) =
    ap (λ b. b || list_any (eq_by_cmp id_cmp id) (map entry_id es)) (is_eq-slice_cmp id (entry_id e))
    ∙ ap (λ b. bytes_eq id (entry_id e) || b) (any_id id es)

-- The map of the entries has an id exactly where an entry has it.
pub has_id : (es : List IdEntry) (ids : List Listed) (id : List ℕ) → listed_all es ≡ Ok ids → is_some (get (let m : Ids = from_entries ids in m) id) ≡ list_any (λ e. bytes_eq id (entry_id e)) es
has_id es ids id h =
    ap is_some (get-from_entries nat_list_cmp_total ids id)
    ∙ is_some-find id_cmp id ids
    ∙ ap (list_any (eq_by_cmp id_cmp id)) (keys-listed_all es ids h)
    ∙ any_id id es

-- The entries behind a map.
known : (r : Result (List Listed) SettingsFault) (d : Ids) → map_of r ≡ Ok d → (ids : List Listed) × (r ≡ Ok ids) × (from_entries ids ≡ d)
known (Ok ids) d h = (ids, refl, same_ok (from_entries ids) d h)
known (Err fault) d h = absurd (cc)

-- Where an id stands for something, it is new.
refused : {A : Type 0} (b : Bool) (first second : SettingsFault) (t : A) → Ok t ≡ cond (not b) (Err first) (Err second) → ⊥
refused true first second t h = cc
refused false first second t h = cc

is_new : (n : ℕ) (twice : Bool) (e : IdEntry) (t : Target) → Ok t ≡ target_of n twice e → twice ≡ false
unfolding subscriber_of group_of
is_new n false e t h = refl
is_new n true (a_subscriber e) t h = absurd (refused (is_id e.id) (Id n) (IdTwice n) t h)
is_new n true (a_group g) t h = absurd (refused (is_id g.id) (GroupId n) (GroupIdTwice n) t h)

nothing : {A : Type 0} (o : Option A) → is_some o ≡ false → o ≡ None
nothing None h = refl
nothing (Some x) h = absurd (cc)

-- What the next entry adds.
next : (es : List IdEntry) (ids : List Listed) (e : IdEntry) (d : Ids) (r : Result Target SettingsFault) → listed_all es ≡ Ok ids → from_entries ids ≡ d → r ≡ target_of (entry_number es e) (is_some (get d (entry_id e))) e
    → listed (behind es ([], e)) ≡ listed_as (entry_id e) r
next es ids e d r all same h =
    ap (λ l. listed (l, e)) (append-nil es)
    ∙ ap (λ b. listed_as (entry_id e) (target_of (entry_number es e) b e)) (sym (has_id es ids (entry_id e) all) ∙ ap (λ m. is_some (get m (entry_id e))) same)
    ∙ ap (listed_as (entry_id e)) (sym h)

pub ids_of-more : (es : List IdEntry) (e : IdEntry) (d : Ids) (t : Target) → ids_of es ≡ Ok d → Ok t ≡ target_of (entry_number es e) (is_some (get d (entry_id e))) e → ids_of (es ++ e ∷ []) ≡ Ok (insert d (entry_id e) t)
ids_of-more es e d t h judged =
    let (ids, all, same) = known (listed_all es) d h in
    let new : get d (entry_id e) ≡ None = nothing (get d (entry_id e)) (is_new _ _ e t judged) in
    let none : find id_cmp (entry_id e) ids ≡ None = sym (get-from_entries nat_list_cmp_total ids (entry_id e)) ∙ ap (λ m. get m (entry_id e)) same ∙ new in
    ap map_of (listed_all-append es (e ∷ []))
    ∙ ap (λ r. map_of (both r (joined_results (listed (behind es ([], e))) (Ok [])))) all
    ∙ ap (λ r. map_of (both (Ok ids) (joined_results r (Ok [])))) (next es ids e d (Ok t) all same judged)
    ∙ ap Ok (from_entries_push nat_list_cmp_total (slice_cmp-IsAntisymmetric nat_cmp-IsAntisymmetric) ids (entry_id e) t none ∙ ap (λ m. insert m (entry_id e) t) same)

pub ids_of-fault : (es : List IdEntry) (e : IdEntry) (more : List IdEntry) (d : Ids) (fault : SettingsFault) → ids_of es ≡ Ok d → Err fault ≡ target_of (entry_number es e) (is_some (get d (entry_id e))) e → ids_of (es ++ e ∷ more) ≡ Err fault
ids_of-fault es e more d fault h judged =
    let (ids, all, same) = known (listed_all es) d h in
    let rest : Result (List Listed) SettingsFault = all_or_first_fault (map (λ p. listed (behind es p)) (map (later e) (with_earlier more))) in
    ap map_of (listed_all-append es (e ∷ more))
    ∙ ap (λ r. map_of (both r (joined_results (listed (behind es ([], e))) rest))) all
    ∙ ap (λ r. map_of (both (Ok ids) (joined_results r rest))) (next es ids e d (Err fault) all same judged)

-- The entries behind a fault.
faulty : (r : Result (List Listed) SettingsFault) (fault : SettingsFault) → map_of r ≡ Err fault → r ≡ Err fault
faulty (Ok ids) fault h = absurd (cc)
faulty (Err first) fault h = cc

-- A fault stays, whatever entries follow.
pub ids_of-faulty : (es more : List IdEntry) (fault : SettingsFault) → ids_of es ≡ Err fault → ids_of (es ++ more) ≡ Err fault
ids_of-faulty es more fault h =
    ap map_of (listed_all-append es more)
    ∙ ap (λ r. map_of (both r (all_or_first_fault (map (λ p. listed (behind es p)) (with_earlier more))))) (faulty (listed_all es) fault h)
