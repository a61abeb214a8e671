-- The entries of the ordered map of ids, as the finite map that they stand for.
use Rattle.std.proofs.Common.{◌≡◌, ℕ, ◌≤◌, Bool, true, false, cond, List, [], ◌∷◌, ◌++◌, length, take, drop, Option, Some, option_map, Vec, Global, Ordering, Less, Equal, Greater, nat_cmp, refl, subst, sym, ap, ◌∙◌, arith}
use Rattle.std.proofs.Math.Seq.{drop-append_seam}
use Rattle.std.proofs.lemmas.List.{take_all, take-append-le, drop-append-le, length-append, length-drop}
use Rattle.std.specs.BTreeMap.{insert_entry, is_at}
use Rattle.std.specs.Cmp.Lexicographic.{slice_cmp, nat_list_cmp_total}
use Rattle.std.specs.FinMap.{from_entries, insert, get-from_entries, get-insert, same_map, slice_cmp-IsAntisymmetric, nat_cmp-IsAntisymmetric}
use Rattle.std.specs.FinMap.Entries.{find, put, find-put, by_order}
use Rattle.std.specs.Map.{lookup}
use Rattle.std.specs.Ordering.{match_ordering, eq_by_cmp}
use Rattle.codeword.specs.declared.functions.Function.{Function}
use Rattle.subscribers.specs.Entries.{most_members}
use Rattle.subscribers.specs.Parts.{Ids, Target}
use Rattle.subscribers.specs.Placed.{StoredId, target_at, seen_ids, IsPlaceIn, ArePlacesIn}
use Rattle.subscribers.specs.declared.directory.Place.{Place}

-- The order of ids.
abbrev pub id_cmp : List ℕ → List ℕ → Ordering
id_cmp = slice_cmp nat_cmp

-- What stands at a place, where there is one.
moved : {A B : Type 0} (f : A → B) (b : Bool) (x : A) (o : Option A) → cond b (Some (f x)) (option_map f o) ≡ option_map f (cond b (Some x) o)
moved f true x o = refl
moved f false x o = refl

-- What a look-up by bytes finds.
pub find-seen_ids : (cs : List ℕ) (id : List ℕ) (es : List StoredId) → find id_cmp id (seen_ids cs es) ≡ option_map (target_at cs) (lookup (is_at (λ k. slice_cmp nat_cmp id k.items)) es)
find-seen_ids cs id [] = refl
find-seen_ids cs id (e ∷ es) =
    ap (cond (eq_by_cmp id_cmp id e.0.items) (Some (target_at cs e.1))) (find-seen_ids cs id es)
    ∙ moved (target_at cs) (eq_by_cmp id_cmp id e.0.items) e.1 (lookup (is_at (λ k. slice_cmp nat_cmp id k.items)) es)

placed : (cs : List ℕ) (o : Ordering) (a b c : List StoredId) → seen_ids cs (match_ordering o a b c) ≡ by_order o (seen_ids cs a) (seen_ids cs b) (seen_ids cs c)
placed cs Less a b c = refl
placed cs Equal a b c = refl
placed cs Greater a b c = refl

-- The entries with one more.
abbrev pub with_entry : List StoredId → Vec ℕ Global → Place → List StoredId
with_entry es k v = insert_entry (λ x y. slice_cmp nat_cmp x.items y.items) es k v

-- An insertion into the ordered entries is one into the list of bytes.
pub seen_ids-insert_entry : (cs : List ℕ) (es : List StoredId) (k : Vec ℕ Global) (v : Place) → seen_ids cs (with_entry es k v) ≡ put id_cmp k.items (target_at cs v) (seen_ids cs es)
seen_ids-insert_entry cs [] k v = refl
seen_ids-insert_entry cs (e ∷ es) k v =
    placed cs (slice_cmp nat_cmp k.items e.0.items) _ _ _
    ∙ ap (λ l. by_order (slice_cmp nat_cmp k.items e.0.items) ((k.items, target_at cs v) ∷ seen_ids cs (e ∷ es)) ((e.0.items, target_at cs v) ∷ seen_ids cs es) ((e.0.items, target_at cs e.1) ∷ l)) (seen_ids-insert_entry cs es k v)

-- The finite map after an insertion.
pub inserted : (cs : List ℕ) (es : List StoredId) (k : Vec ℕ Global) (v : Place) → (let m : Ids = from_entries (seen_ids cs (with_entry es k v)) in m) ≡ insert (from_entries (seen_ids cs es)) k.items (target_at cs v)
inserted cs es k v =
    same_map nat_list_cmp_total (slice_cmp-IsAntisymmetric nat_cmp-IsAntisymmetric) _ _ (λ q.
    get-from_entries nat_list_cmp_total _ q
    ∙ ap (find id_cmp q) (seen_ids-insert_entry cs es k v)
    ∙ find-put id_cmp nat_list_cmp_total q k.items (target_at cs v) (seen_ids cs es)
    ∙ ap (cond (eq_by_cmp id_cmp q k.items) (Some (target_at cs v))) (sym (get-from_entries nat_list_cmp_total (seen_ids cs es) q))
    ∙ sym (get-insert nat_list_cmp_total (from_entries (seen_ids cs es)) k.items (target_at cs v) q))

-- A place stays one, with the same capcodes, where further capcodes are appended.
IsPlaceIn-longer : (cs more : List ℕ) (p : Place) → IsPlaceIn cs p → IsPlaceIn (cs ++ more) p
IsPlaceIn-longer cs more p h = record { some = h.some; most = h.most; within = (let w = h.within in omega (arith, length-append cs more)) }

target_at-longer : (cs more : List ℕ) (p : Place) → IsPlaceIn cs p → target_at (cs ++ more) p ≡ target_at cs p
target_at-longer cs more p h =
    let w = h.within in
    ap (λ (l : List ℕ). let t : Target = record { function = p.function; capcodes = l } in t)
    (ap (take p.count) (drop-append-le p.start cs more (omega arith)) ∙ take-append-le p.count (drop p.start cs) more (omega (arith, length-drop p.start cs)))

pub ArePlacesIn-longer : (cs more : List ℕ) (es : List StoredId) → ArePlacesIn cs es → ArePlacesIn (cs ++ more) es
ArePlacesIn-longer cs more [] h = tt
ArePlacesIn-longer cs more (e ∷ es) h = (IsPlaceIn-longer cs more e.1 h.0, ArePlacesIn-longer cs more es h.1)

pub seen_ids-longer : (cs more : List ℕ) (es : List StoredId) → ArePlacesIn cs es → seen_ids (cs ++ more) es ≡ seen_ids cs es
seen_ids-longer cs more [] h = refl
seen_ids-longer cs more (e ∷ es) h =
    ap (λ (t : Target). (e.0.items, t) ∷ seen_ids (cs ++ more) es) (target_at-longer cs more e.1 h.0)
    ∙ ap (λ (l : List (List ℕ × Target)). (e.0.items, target_at cs e.1) ∷ l) (seen_ids-longer cs more es h.1)

-- The place of the capcodes that were appended.
abbrev pub place_behind : Function → List ℕ → List ℕ → Place
place_behind function cs more = record { function = function; start = length cs; count = length more }

pub IsPlaceIn-behind : (function : Function) (cs more : List ℕ) → 1 ≤ length more → length more ≤ most_members → IsPlaceIn (cs ++ more) (place_behind function cs more)
IsPlaceIn-behind function cs more some most = record { some = some; most = most; within = omega (arith, length-append cs more) }

pub target_at-behind : (function : Function) (cs more : List ℕ) → target_at (cs ++ more) (place_behind function cs more) ≡ record { function = function; capcodes = more }
target_at-behind function cs more =
    ap (λ (l : List ℕ). let t : Target = record { function = function; capcodes = l } in t)
    (ap (take (length more)) (drop-append_seam cs more) ∙ take_all (length more) more (omega arith))

-- The finite map after an insertion of an id whose capcodes were appended.
pub inserted-behind : (function : Function) (cs longer more : List ℕ) (es es_after : List StoredId) (k : Vec ℕ Global) (start : ℕ) → ArePlacesIn cs es → longer ≡ cs ++ more → start ≡ length cs
    → es_after ≡ with_entry es k (record { function = function; start = start; count = length more })
    → (let m : Ids = from_entries (seen_ids longer es_after) in m) ≡ insert (from_entries (seen_ids cs es)) k.items (record { function = function; capcodes = more })
inserted-behind function cs longer more es es_after k start places appended begins added =
    let before : Ids = from_entries (seen_ids (cs ++ more) es) in
    ap (λ (l : List ℕ). let m : Ids = from_entries (seen_ids l es_after) in m) appended
    ∙ ap (λ (l : List StoredId). let m : Ids = from_entries (seen_ids (cs ++ more) l) in m) (added ∙ ap (λ (n : ℕ). with_entry es k (record { function = function; start = n; count = length more })) begins)
    ∙ inserted (cs ++ more) es k (place_behind function cs more)
    ∙ ap (insert before k.items) (target_at-behind function cs more)
    ∙ ap (λ (l : List (List ℕ × Target)). let m : Ids = from_entries l in insert m k.items (record { function = function; capcodes = more })) (seen_ids-longer cs more es places)

-- The same finite map, where the id was not inserted after all.
pub same_ids-behind : (cs longer more : List ℕ) (es es_after : List StoredId) → ArePlacesIn cs es → longer ≡ cs ++ more → es_after ≡ es
    → (let m : Ids = from_entries (seen_ids longer es_after) in m) ≡ from_entries (seen_ids cs es)
same_ids-behind cs longer more es es_after places appended same =
    ap (λ (l : List ℕ). let m : Ids = from_entries (seen_ids l es_after) in m) appended
    ∙ ap (λ (l : List StoredId). let m : Ids = from_entries (seen_ids (cs ++ more) l) in m) same
    ∙ ap (λ (l : List (List ℕ × Target)). let m : Ids = from_entries l in m) (seen_ids-longer cs more es places)

-- Each entry has a place after an insertion of one that has.
by_places : (cs : List ℕ) (o : Ordering) (a b c : List StoredId) → ArePlacesIn cs a → ArePlacesIn cs b → ArePlacesIn cs c → ArePlacesIn cs (match_ordering o a b c)
by_places cs Less a b c x y z = x
by_places cs Equal a b c x y z = y
by_places cs Greater a b c x y z = z

pub ArePlacesIn-insert : (cs : List ℕ) (es : List StoredId) (k : Vec ℕ Global) (v : Place) → IsPlaceIn cs v → ArePlacesIn cs es → ArePlacesIn cs (with_entry es k v)
ArePlacesIn-insert cs [] k v p h = (p, tt)
ArePlacesIn-insert cs (e ∷ es) k v p h =
    by_places cs (slice_cmp nat_cmp k.items e.0.items) _ _ _ (p, h) (p, h.1) (h.0, ArePlacesIn-insert cs es k v p h.1)

-- Each entry has a place after an insertion of an id whose capcodes were appended.
pub ArePlacesIn-behind : (function : Function) (cs longer more : List ℕ) (es es_after : List StoredId) (k : Vec ℕ Global) (start : ℕ) → ArePlacesIn cs es → 1 ≤ length more → length more ≤ most_members → longer ≡ cs ++ more
    → start ≡ length cs → es_after ≡ with_entry es k (record { function = function; start = start; count = length more }) → ArePlacesIn longer es_after
ArePlacesIn-behind function cs longer more es es_after k start places some most appended begins added =
    subst (λ (l : List ℕ). ArePlacesIn l es_after) (sym appended)
    (subst (ArePlacesIn (cs ++ more)) (sym (added ∙ ap (λ (n : ℕ). with_entry es k (record { function = function; start = n; count = length more })) begins))
    (ArePlacesIn-insert (cs ++ more) es k (place_behind function cs more) (IsPlaceIn-behind function cs more some most) (ArePlacesIn-longer cs more es places)))

-- A place that is found is one.
chosen_place : (cs : List ℕ) (b : Bool) (x p : Place) (o : Option Place) → IsPlaceIn cs x → (o ≡ Some p → IsPlaceIn cs p) → cond b (Some x) o ≡ Some p → IsPlaceIn cs p
chosen_place cs true x p o h later e = subst (IsPlaceIn cs) (let same : x ≡ p = cc in same) h
chosen_place cs false x p o h later e = later e

pub IsPlaceIn-found : (cs : List ℕ) (id : List ℕ) (es : List StoredId) (p : Place) → ArePlacesIn cs es → lookup (is_at (λ k. slice_cmp nat_cmp id k.items)) es ≡ Some p → IsPlaceIn cs p
IsPlaceIn-found cs id [] p h e = absurd (cc)
IsPlaceIn-found cs id (x ∷ es) p h e = chosen_place cs (eq_by_cmp id_cmp id x.0.items) x.1 p _ h.0 (IsPlaceIn-found cs id es p h.1) e
