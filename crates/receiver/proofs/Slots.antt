-- One more word to the slots and to the entries of a stretch.
use Rattle.std.proofs.Common.{◌≡◌, ℕ, suc, ◌+◌, ◌/◌, ◌%◌, ◌<◌, Bool, true, false, List, [], ◌∷◌, ◌++◌, length, arith, refl, sym, ◌∙◌, ap, inl, inr, add-zero, zero-add, eqb-true}
use Rattle.std.proofs.lemmas.Bool.{cases_Bool, eqb-false}
use Rattle.receiver.specs.Stretches.{is_sync_place}
use Rattle.receiver.specs.Slots.{TableEntry, entry_with, slots_with, slots_from, stretch_slots, entries_from}

abbrev pub slot_if : Bool → ℕ → List ℕ
slot_if true word = []
slot_if false word = word ∷ []

slots_grow : (p : Bool) (w : ℕ) (xs ys : List ℕ) → slots_with p w (xs ++ ys) ≡ slots_with p w xs ++ ys
slots_grow true w xs ys = refl
slots_grow false w xs ys = refl

slots_one : (p : Bool) (w : ℕ) → slots_with p w [] ≡ slot_if p w
slots_one true w = refl
slots_one false w = refl

pub slots_from-push : (k : ℕ) (ws : List ℕ) (w : ℕ) → slots_from k (ws ++ w ∷ []) ≡ slots_from k ws ++ slot_if (is_sync_place (k + length ws)) w
unfolding slots_from
slots_from-push k [] w = slots_one (is_sync_place k) w ∙ ap (λ (n : ℕ). slot_if (is_sync_place n) w) (sym (add-zero k))
slots_from-push k (v ∷ ws) w =
    let e : suc k + length ws ≡ k + suc (length ws) = omega arith in
    ap (slots_with (is_sync_place k) v) (slots_from-push (suc k) ws w)
    ∙ slots_grow (is_sync_place k) v (slots_from (suc k) ws) (slot_if (is_sync_place (suc k + length ws)) w)
    ∙ ap (λ (n : ℕ). slots_with (is_sync_place k) v (slots_from (suc k) ws) ++ slot_if (is_sync_place n) w) e

pub slots_of-push : (ws : List ℕ) (w : ℕ) (at : Bool) → is_sync_place (length ws) ≡ at → stretch_slots (ws ++ w ∷ []) ≡ stretch_slots ws ++ slot_if at w
slots_of-push ws w at h = slots_from-push 0 ws w ∙ ap (λ (p : Bool). stretch_slots ws ++ slot_if p w) (ap is_sync_place (zero-add (length ws)) ∙ h)

pub entries_from-push : (k : ℕ) (ws : List ℕ) (w : ℕ)
    → entries_from k (ws ++ w ∷ []) ≡ entries_from k ws ++ entry_with (is_sync_place (k + length ws)) ((k + length ws) % 17) w ∷ []
unfolding entries_from
entries_from-push k [] w = ap (λ (n : ℕ). entry_with (is_sync_place n) (n % 17) w ∷ []) (sym (add-zero k))
entries_from-push k (v ∷ ws) w =
    let e : suc k + length ws ≡ k + suc (length ws) = omega arith in
    ap (λ (xs : List TableEntry). entry_with (is_sync_place k) (k % 17) v ∷ xs)
    (entries_from-push (suc k) ws w ∙ ap (λ (n : ℕ). entries_from (suc k) ws ++ entry_with (is_sync_place n) (n % 17) w ∷ []) e)

-- ---- the place of a slot

slots_count_step : (k : ℕ) (w : ℕ) (later : List ℕ) (n : ℕ) → length later + (suc k + n) / 17 ≡ n + suc k / 17
    → length (slots_with (is_sync_place k) w later) + (k + suc n) / 17 ≡ suc n + k / 17
slots_count_step k w later n h = elim (cases_Bool (is_sync_place k)) [
  | inl at ↦
      let e = eqb-true (k % 17) 16 at in
      let s : length (slots_with (is_sync_place k) w later) ≡ length later = ap (λ (p : Bool). length (slots_with p w later)) at in
      let a : suc k + n ≡ k + suc n = omega arith in
      let b : (suc k + n) / 17 ≡ (k + suc n) / 17 = ap (λ (x : ℕ). x / 17) a in
      omega arith
  | inr off ↦
      let e = eqb-false (k % 17) 16 off in
      let s : length (slots_with (is_sync_place k) w later) ≡ suc (length later) = ap (λ (p : Bool). length (slots_with p w later)) off in
      let a : suc k + n ≡ k + suc n = omega arith in
      let b : (suc k + n) / 17 ≡ (k + suc n) / 17 = ap (λ (x : ℕ). x / 17) a in
      omega arith
]

pub slots_count : (k : ℕ) (ws : List ℕ) → length (slots_from k ws) + (k + length ws) / 17 ≡ length ws + k / 17
unfolding slots_from
slots_count k [] = let e : k + 0 ≡ k = omega arith in let f : (k + 0) / 17 ≡ k / 17 = ap (λ (x : ℕ). x / 17) e in omega arith
slots_count k (w ∷ ws) = slots_count_step k w (slots_from (suc k) ws) (length ws) (slots_count (suc k) ws)

-- the number of the next slot has its place modulo 16
pub slot_place : (ws : List ℕ) → length ws % 17 < 16 → length (stretch_slots ws) % 16 ≡ length ws % 17
slot_place ws p =
    let c = slots_count 0 ws in
    omega arith
