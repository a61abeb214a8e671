-- The stretches of longer lists of bits.
use Rattle.std.proofs.Common.{◌≡◌, ℕ, zero, suc, ◌+◌, ◌-◌, ◌*◌, ◌/◌, ◌≤◌, Bool, true, false, List, [], ◌∷◌, ◌++◌, length, length-append, length-drop, drop, Option, Some, None, option_map, arith, refl, sym, ◌∙◌, ap, ap₂, ◌⊎◌, inl, inr, min}
use Rattle.std.proofs.lemmas.List.{drop-append-le}
use Rattle.std.proofs.lemmas.Bool.{cases_lt}
use Rattle.receiver.specs.Stretches.{begins_with_sync, value_or, after_sync, first_words, words_of_bits, is_sync_place, is_sync, held_with, held_from, held_words, loss_with, loss_from, after_loss, later_with, stretches_with, first_stretches, stretches}
use Rattle.receiver.proofs.Hunts.{long_begins, short_finds}
use Rattle.receiver.proofs.Locks.{first_words-append, length-first_words, first_words-split}

-- ---- a sync word that was found stays where it is

found_cases : (t : Bool) (x y : List Bool) (o : Option (List Bool)) → value_or t x o ≡ Some y → ((t ≡ true) × (x ≡ y)) ⊎ ((t ≡ false) × (o ≡ Some y))
found_cases true x y o h = inl (refl, cc)
found_cases false x y o h = inr (refl, h)

pub after_sync-append : (bits more rest : List Bool) → after_sync bits ≡ Some rest → after_sync (bits ++ more) ≡ Some (rest ++ more)
unfolding after_sync
after_sync-append [] more rest h = cc
after_sync-append (b ∷ bits) more rest h = elim (found_cases (begins_with_sync (b ∷ bits)) (drop 31 bits) rest (after_sync bits) h) [
  | inl here ↦ elim (cases_lt (length (b ∷ bits)) 32) [
    | inl short ↦ (let n = short_finds (b ∷ bits) short in absurd (no_some (n_to (b ∷ bits) n h)))
    | inr long ↦
        ap (λ (t : Bool). value_or t (drop 31 (bits ++ more)) (after_sync (bits ++ more))) (long_begins (b ∷ bits) more long ∙ here.0)
        ∙ ap (λ (xs : List Bool). Some xs) (drop-append-le 31 bits more (omega arith) ∙ ap (λ (xs : List Bool). xs ++ more) here.1)
  ]
  | inr later ↦ elim (cases_lt (length (b ∷ bits)) 32) [
    | inl short ↦ (let n = short_finds (b ∷ bits) short in absurd (no_some (n_to (b ∷ bits) n h)))
    | inr long ↦
        ap (λ (t : Bool). value_or t (drop 31 (bits ++ more)) (after_sync (bits ++ more))) (long_begins (b ∷ bits) more long ∙ later.0)
        ∙ after_sync-append bits more rest later.1
  ]
]
  where
    no_some : (None ≡ Some rest) → ⊥
    no_some e = cc

    n_to : (bits : List Bool) → after_sync bits ≡ None → after_sync bits ≡ Some rest → None ≡ Some rest
    n_to bits n h = sym n ∙ h

pub length-after_sync : (bits rest : List Bool) → after_sync bits ≡ Some rest → length rest + 32 ≤ length bits
unfolding after_sync
length-after_sync [] rest h = absurd (let e : None ≡ Some rest = h in cc)
length-after_sync (b ∷ bits) rest h = elim (cases_lt (length (b ∷ bits)) 32) [
  | inl short ↦ absurd (let e : None ≡ Some rest = sym (short_finds (b ∷ bits) short) ∙ h in cc)
  | inr long ↦ elim (found_cases (begins_with_sync (b ∷ bits)) (drop 31 bits) rest (after_sync bits) h) [
    | inl here ↦ (let l = length-drop 31 bits in let e = ap length here.1 in omega arith)
    | inr later ↦ (let ih = length-after_sync bits rest later.1 in omega arith)
  ]
]

-- ---- a lock that was lost stays lost there

pub words_of-append : (bits more : List Bool) → (vs : List ℕ) × (words_of_bits (bits ++ more) ≡ words_of_bits bits ++ vs)
words_of-append bits more =
    let l = length-append bits more in
    let e : length (bits ++ more) / 32 ≡ length bits / 32 + (length (bits ++ more) / 32 - length bits / 32) = omega arith in
    let s = first_words-split (length bits / 32) (length (bits ++ more) / 32 - length bits / 32) (bits ++ more) in (
      first_words (length (bits ++ more) / 32 - length bits / 32) (drop (32 * (length bits / 32)) (bits ++ more)),
      ap (λ (n : ℕ). first_words n (bits ++ more)) e ∙ s
          ∙ ap (λ (xs : List ℕ). xs ++ first_words (length (bits ++ more) / 32 - length bits / 32) (drop (32 * (length bits / 32)) (bits ++ more)))
          (first_words-append (length bits / 32) bits more (omega arith)),
    )

some_suc : (o : Option ℕ) (n : ℕ) → option_map suc o ≡ Some n → (m : ℕ) × (o ≡ Some m) × (n ≡ suc m)
some_suc None n h = absurd (let e : None ≡ Some n = h in cc)
some_suc (Some m) n h = (m, refl, cc)

-- a word at which the lock is lost, or one that goes on
loss_cases : (p g : Bool) (o : Option ℕ) (n : ℕ) → loss_with p g o ≡ Some n
    → ((p ≡ true) × (g ≡ false) × (n ≡ 1)) ⊎ (((p ≡ false) ⊎ (g ≡ true)) × ((m : ℕ) × (o ≡ Some m) × (n ≡ suc m)))
loss_cases true false o n h = inl (refl, refl, cc)
loss_cases true true o n h = inr (inr refl, some_suc o n h)
loss_cases false g o n h = inr (inl refl, some_suc o n h)

pub loss_goes : (p g : Bool) (o : Option ℕ) → (p ≡ false) ⊎ (g ≡ true) → loss_with p g o ≡ option_map suc o
loss_goes true true o h = refl
loss_goes true false o h = elim h [ inl x ↦ cc | inr y ↦ cc ]
loss_goes false g o h = refl

pub loss_from-append : (k : ℕ) (ws vs : List ℕ) (n : ℕ) → loss_from k ws ≡ Some n
    → (loss_from k (ws ++ vs) ≡ Some n) × (held_from k (ws ++ vs) ≡ held_from k ws) × (n ≤ length ws)
unfolding loss_from held_from
loss_from-append k [] vs n h = absurd (let e : None ≡ Some n = h in cc)
loss_from-append k (w ∷ ws) vs n h = elim (loss_cases (is_sync_place k) (is_sync w) (loss_from (suc k) ws) n h) [
  | inl lost ↦ (
    ap₂ (λ (p g : Bool). loss_with p g (loss_from (suc k) (ws ++ vs))) lost.0 lost.1 ∙ ap (λ (x : ℕ). Some x) (sym lost.2),
    ap₂ (λ (p g : Bool). held_with p g w (held_from (suc k) (ws ++ vs))) lost.0 lost.1
        ∙ sym (ap₂ (λ (p g : Bool). held_with p g w (held_from (suc k) ws)) lost.0 lost.1),
    omega (arith, lost.2),
  )
  | inr on ↦
      let ih = loss_from-append (suc k) ws vs on.1.0 on.1.1 in (
        loss_goes (is_sync_place k) (is_sync w) (loss_from (suc k) (ws ++ vs)) on.0 ∙ ap (option_map suc) ih.0 ∙ ap (λ (x : ℕ). Some x) (sym on.1.2),
        ap (held_with (is_sync_place k) (is_sync w) w) ih.1,
        omega (arith, ih.2, on.1.2),
      )
]

some_inside : {X Y : Type 0} (f : X → Y) (o : Option X) (y : Y) → option_map f o ≡ Some y → (x : X) × (o ≡ Some x) × (f x ≡ y)
some_inside f None y h = absurd (let e : None ≡ Some y = h in cc)
some_inside f (Some x) y h = (x, refl, cc)

pub after_loss-append : (bits more rest : List Bool) → after_loss bits ≡ Some rest
    → (after_loss (bits ++ more) ≡ Some (rest ++ more)) × (held_words (bits ++ more) ≡ held_words bits) × (length rest ≤ length bits)
after_loss-append bits more rest h =
    let i = some_inside (λ n. drop (32 * n) bits) (loss_from 0 (words_of_bits bits)) rest h in
    let w = words_of-append bits more in
    let a = loss_from-append 0 (words_of_bits bits) w.0 i.0 i.1 in
    let l = length-first_words (length bits / 32) bits in
    let d = length-drop (32 * i.0) bits in
    let fits : 32 * i.0 ≤ length bits = omega (arith, a.2) in (
      ap (option_map (λ n. drop (32 * n) (bits ++ more))) (ap (loss_from 0) w.1 ∙ a.0)
          ∙ ap (λ (xs : List Bool). Some xs) (drop-append-le (32 * i.0) bits more fits ∙ ap (λ (xs : List Bool). xs ++ more) i.2),
      ap (held_from 0) w.1 ∙ a.1,
      (let e = ap length i.2 in omega arith),
    )

-- ---- the stretches of a list, without a bound

later_same : (f g : List Bool → List (List ℕ)) (bound : ℕ) → ((xs : List Bool) → length xs ≤ bound → f xs ≡ g xs)
    → (o : Option (List Bool)) → ((xs : List Bool) → o ≡ Some xs → length xs ≤ bound) → later_with f o ≡ later_with g o
later_same f g bound h None s = refl
later_same f g bound h (Some xs) s = h xs (s xs refl)

stretches_same : (f g : List Bool → List (List ℕ)) (bound : ℕ) → ((xs : List Bool) → length xs ≤ bound → f xs ≡ g xs)
    → (o : Option (List Bool)) → ((xs : List Bool) → o ≡ Some xs → length xs ≤ bound) → stretches_with f o ≡ stretches_with g o
stretches_same f g bound h None s = refl
stretches_same f g bound h (Some rest) s =
    ap (λ (xs : List (List ℕ)). held_words rest ∷ xs)
    (later_same f g bound h (after_loss rest) (λ xs e. let a = after_loss-append rest [] xs e in let b = s rest refl in omega (arith, a.2)))

pub enough_stretches : (n m : ℕ) (bits : List Bool) → length bits ≤ n → length bits ≤ m → first_stretches n bits ≡ first_stretches m bits
unfolding first_stretches
enough_stretches zero zero bits h k = refl
enough_stretches zero (suc m) bits h k = (let e = short_finds bits (omega arith) in ap (stretches_with (first_stretches m)) (sym e))
enough_stretches (suc n) zero bits h k = (let e = short_finds bits (omega arith) in ap (stretches_with (first_stretches n)) e)
enough_stretches (suc n) (suc m) bits h k =
    stretches_same (first_stretches n) (first_stretches m) (min n m) (λ xs l. enough_stretches n m xs (omega arith) (omega arith)) (after_sync bits)
    (λ xs e. let l = length-after_sync bits xs e in omega arith)

-- the stretches are those of what is found first, and those after it
pub stretches-is : (bits : List Bool) → stretches bits ≡ stretches_with stretches (after_sync bits)
unfolding stretches first_stretches
stretches-is bits =
    enough_stretches (length bits) (suc (length bits)) bits (omega arith) (omega arith)
    ∙ stretches_same (first_stretches (length bits)) stretches (length bits) (λ xs l. enough_stretches (length bits) (length xs) xs l (omega arith)) (after_sync bits)
    (λ xs e. let l = length-after_sync bits xs e in omega arith)
