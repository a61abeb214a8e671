-- One turn of a loop over entries that were read.
use Rattle.std.proofs.Common.{◌≡◌, ℕ, suc, ◌+◌, ◌<◌, Bool, true, false, not, List, [], ◌∷◌, ◌++◌, map, length, get_or, take, drop, Result, Ok, Err, OnOk, OnErr, is_some, is_err, pos, arith, sym, ap, ◌∙◌, append_assoc, refl}
use Rattle.std.specs.Prelude.{count_by}
use Rattle.std.proofs.lemmas.List.{map-append, take-append-drop, length-take}
use Rattle.std.proofs.lemmas.List.Sums.{sum_by-append}
use Rattle.std.proofs.Math.Seq.{take-suc, drop-cons}
use Rattle.std.specs.FinMap.{get, insert}
use Rattle.subscribers.specs.declared.tables.Entry.{Entry as EntryRead}
use Rattle.subscribers.specs.declared.tables.GroupTable.{GroupTable}
use Rattle.subscribers.specs.declared.faults.SettingsFault.{SettingsFault}
use Rattle.subscribers.specs.Entries.{IdEntry, a_subscriber, a_group, entry_id, entry_number, is_group_entry, target_of, ids_of}
use Rattle.subscribers.specs.Form.{SubscriberEntry, GroupEntry}
use Rattle.subscribers.specs.Parts.{Ids, Target}
use Rattle.subscribers.specs.Seen.{seen_entry, seen_entries, seen_group, seen_groups}
use Rattle.subscribers.proofs.Places.{map_twice}
use Rattle.subscribers.proofs.Ids.{ids_of-more, ids_of-fault}

-- What holds after a call that made no error.
pub when_ok : {A B : Type 0} (r : Result A B) (P : Type 0) → false ≡ is_err r → OnOk r P → P
when_ok (Ok x) P h p = p
when_ok (Err e) P h p = absurd (cc)

-- What holds after a call that made an error.
pub on_err : {A B : Type 0} (r : Result A B) (P : Type 0) → P → OnErr r P
on_err (Ok x) P p = tt
on_err (Err e) P p = p

-- The entries so far, behind those of another array.
abbrev pub so_far : {A : Type 0} → (A → IdEntry) → List IdEntry → List A → ℕ → List IdEntry
so_far seen front xs k = front ++ map seen (take k xs)

module _ {A : Type 0} (seen : A → IdEntry) (front : List IdEntry) (xs : List A) (k : ℕ) (x : A) (within : k < length xs) where
  one_more : so_far seen front xs (k + 1) ≡ so_far seen front xs k ++ seen (get_or xs k x) ∷ []
  one_more =
      let more : k + 1 ≡ suc k = omega arith in
      ap (λ n. front ++ map seen (take n xs)) more
      ∙ ap (λ l. front ++ l) (ap (map seen) (take-suc xs k x within) ∙ map-append seen (take k xs) (get_or xs k x ∷ []))
      ∙ sym (append_assoc front (map seen (take k xs)) (seen (get_or xs k x) ∷ []))

  whole : front ++ map seen xs ≡ so_far seen front xs k ++ seen (get_or xs k x) ∷ map seen (drop (suc k) xs)
  whole =
      ap (λ l. front ++ l) (ap (map seen) (sym (take-append-drop k xs))
      ∙ map-append seen (take k xs) (drop k xs)
      ∙ ap (λ l. map seen (take k xs) ++ map seen l) (drop-cons xs k x within))
      ∙ sym (append_assoc front (map seen (take k xs)) (seen (get_or xs k x) ∷ map seen (drop (suc k) xs)))

  -- The entry has no fault.
  pub turn-more : (n : ℕ) (d : Ids) (t : Target) → entry_number (so_far seen front xs k) (seen (get_or xs k x)) ≡ n → ids_of (so_far seen front xs k) ≡ Ok d
      → target_of n (is_some (get d (entry_id (seen (get_or xs k x))))) (seen (get_or xs k x)) ≡ Ok t
      → ids_of (so_far seen front xs (k + 1)) ≡ Ok (insert d (entry_id (seen (get_or xs k x))) t)
  turn-more n d t number h judged =
      let e = seen (get_or xs k x) in
      ap ids_of one_more ∙ ids_of-more (so_far seen front xs k) e d t h (sym judged ∙ ap (λ m. target_of m (is_some (get d (entry_id e))) e) (sym number))

  -- The entry is faulty.
  pub turn-fault : (n : ℕ) (d : Ids) (fault : SettingsFault) → entry_number (so_far seen front xs k) (seen (get_or xs k x)) ≡ n → ids_of (so_far seen front xs k) ≡ Ok d
      → target_of n (is_some (get d (entry_id (seen (get_or xs k x))))) (seen (get_or xs k x)) ≡ Err fault
      → Err fault ≡ ids_of (front ++ map seen xs)
  turn-fault n d fault number h judged =
      let e = seen (get_or xs k x) in
      sym (ap ids_of whole ∙ ids_of-fault (so_far seen front xs k) e _ d fault h (sym judged ∙ ap (λ m. target_of m (is_some (get d (entry_id e))) e) (sym number)))

-- Entries of one array, counted.
count-append : (p : IdEntry → Bool) (xs ys : List IdEntry) → count_by p (xs ++ ys) ≡ count_by p xs + count_by p ys
count-append p xs ys = sum_by-append (λ x. Rattle.std.proofs.Common.cond (p x) 1 0) xs ys

next_is : (n : ℕ) → 1 + n ≡ suc n
next_is n = omega arith

subscribers_counted : {A : Type 0} (f : A → SubscriberEntry) (xs : List A) → count_by (λ x. not (is_group_entry x)) (map (λ x. a_subscriber (f x)) xs) ≡ length xs
subscribers_counted f [] = refl
subscribers_counted f (x ∷ xs) =
    count-append (λ y. not (is_group_entry y)) (a_subscriber (f x) ∷ []) (map (λ x. a_subscriber (f x)) xs) ∙ ap (λ n. 1 + n) (subscribers_counted f xs) ∙ next_is (length xs)

no_groups_counted : {A : Type 0} (f : A → SubscriberEntry) (xs : List A) → count_by is_group_entry (map (λ x. a_subscriber (f x)) xs) ≡ 0
no_groups_counted f [] = refl
no_groups_counted f (x ∷ xs) = omega (arith, no_groups_counted f xs)

groups_counted : {A : Type 0} (f : A → GroupEntry) (xs : List A) → count_by is_group_entry (map (λ x. a_group (f x)) xs) ≡ length xs
groups_counted f [] = refl
groups_counted f (x ∷ xs) =
    count-append is_group_entry (a_group (f x) ∷ []) (map (λ x. a_group (f x)) xs) ∙ ap (λ n. 1 + n) (groups_counted f xs) ∙ next_is (length xs)

-- The entry of a place has the next number.
pub subscriber_number : (xs : List EntryRead) (k : ℕ) (e : SubscriberEntry) → k < length xs → entry_number (so_far (λ (x : EntryRead). a_subscriber (seen_entry x)) [] xs k) (a_subscriber e) ≡ k + 1
subscriber_number xs k e within = omega (arith, subscribers_counted seen_entry (take k xs), length-take k xs)

pub group_number : (es : List SubscriberEntry) (xs : List GroupTable) (k : ℕ) (g : GroupEntry) → k < length xs → entry_number (so_far (λ (x : GroupTable). a_group (seen_group x)) (map a_subscriber es) xs k) (a_group g) ≡ k + 1
group_number es xs k g within =
    omega (arith, count-append is_group_entry (map a_subscriber es) (map (λ (x : GroupTable). a_group (seen_group x)) (take k xs)), no_groups_counted (λ e. e) es, groups_counted seen_group (take k xs), length-take k xs)

-- All entries of an array.
pub subscribers_seen : (xs : List EntryRead) → map a_subscriber (seen_entries xs) ≡ map (λ (x : EntryRead). a_subscriber (seen_entry x)) xs
subscribers_seen xs = map_twice seen_entry a_subscriber xs

pub groups_seen : (xs : List GroupTable) → map a_group (seen_groups xs) ≡ map (λ (x : GroupTable). a_group (seen_group x)) xs
groups_seen xs = map_twice seen_group a_group xs

-- The value that a read past the end would give.
abbrev pub no_entry : EntryRead
no_entry = record { id = record { ref_ptr = (0, 0); now = [] }; capcode = pos 0; class = record { ref_ptr = (0, 0); now = [] } }
