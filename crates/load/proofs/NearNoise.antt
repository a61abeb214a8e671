-- What is heard through the first noise is near.
use Rattle.std.proofs.Common.{◌≡◌, ℕ, zero, suc, ◌+◌, ◌*◌, ◌/◌, ◌<◌, ◌≤◌, ◌==◌, Bool, true, false, ◌||◌, List, [], ◌∷◌, ◌++◌, map, flat_map, length, length-append, inl, inr, arith, refl, ap, ap₂, subst, sym, ◌∙◌}
use Rattle.std.specs.Prelude.{replicate}
use Rattle.std.specs.List.{range_with_len}
use Rattle.std.proofs.lemmas.Bool.{cases_order, ne_eqb}
use Rattle.std.proofs.lemmas.List.{drop_at, length-replicate, take_at}
use Rattle.std.proofs.lemmas.List.FromFn.{length-map-range_with_len}
use Rattle.air.specs.Air.{batches, preamble}
use Rattle.air.specs.Left.{AreWords}
use Rattle.air.specs.Near.{IsNearAir, word_behind}
use Rattle.bits.specs.Bits.{bit_value, dist, word_bits, words_bits, xor}
use Rattle.bits.proofs.Bytes.{words_bits-append}
use Rattle.bits.proofs.Lengths.{length-bits_of, length-words_bits}
use Rattle.bits.proofs.Metric.{dist-self}
use Rattle.codeword.specs.Words.{filler}
use Rattle.listening.proofs.NoisyHeard.{length-noisy_bits}
use Rattle.page_text.specs.Page.{Page}
use Rattle.receiver.specs.Windows.{preamble_bits}
use Rattle.wires.specs.Stacked.{noisy_bits}
use Rattle.load.specs.Noises.{first_noise, is_flipped, one_place, other_place, word_of_test}
use Rattle.load.proofs.NearBits.{IsNearWords, near_air-whole}
use Rattle.load.proofs.WordNoises.{noisy-then}

-- how many bits are ones
abbrev ones_in : List Bool → ℕ
ones_in [] = 0
ones_in (b ∷ bits) = bit_value b + ones_in bits

flipped_back : (b n : Bool) → bit_value (xor (xor b n) b) ≡ bit_value n
flipped_back true true = refl
flipped_back true false = refl
flipped_back false true = refl
flipped_back false false = refl

-- a noise makes so many wrong bits
dist-noisy : (bits noise : List Bool) → length noise ≡ length bits → dist (noisy_bits bits noise) bits ≡ ones_in noise
dist-noisy [] [] e = refl
dist-noisy [] (n ∷ noise) e = absurd (omega (arith, e))
dist-noisy (b ∷ bits) [] e = absurd (omega (arith, e))
dist-noisy (b ∷ bits) (n ∷ noise) e = ap₂ (λ (x y : ℕ). x + y) (flipped_back b n) (dist-noisy bits noise (omega (arith, e)))

-- at most one place of a range is this one
none_before : (p a n : ℕ) → p < a → ones_in (map (λ i. i == p) (range_with_len a n)) ≡ 0
none_before p a zero less = refl
none_before p a (suc n) less =
    let other : (a == p) ≡ false = ne_eqb a p (λ e. omega (arith, less, e)) in
    let zero_now : bit_value (a == p) ≡ 0 = ap bit_value other in
    omega (arith, zero_now, none_before p (a + 1) n (omega (arith, less)))

value_at_most : (b : Bool) → bit_value b ≤ 1
value_at_most true = omega arith
value_at_most false = omega arith

at_most_one_place : (p a n : ℕ) → ones_in (map (λ i. i == p) (range_with_len a n)) ≤ 1
at_most_one_place p a zero = omega arith
at_most_one_place p a (suc n) = elim (cases_order a p) [
  | inl same ↦ let none = none_before p (a + 1) n (omega (arith, same)) in omega (arith, none, value_at_most (a == p))
  | inr (inl less) ↦
      let other : (a == p) ≡ false = ne_eqb a p (λ e. omega (arith, less, e)) in
      let zero_now : bit_value (a == p) ≡ 0 = ap bit_value other in
      omega (arith, zero_now, at_most_one_place p (a + 1) n)
  | inr (inr more) ↦ let none = none_before p (a + 1) n (omega (arith, more)) in omega (arith, none, value_at_most (a == p))
]

either_value : (p q : Bool) → bit_value (p || q) ≤ bit_value p + bit_value q
either_value true q = omega arith
either_value false q = omega arith

ones-either : (f g : ℕ → Bool) (xs : List ℕ) → ones_in (map (λ i. f i || g i) xs) ≤ ones_in (map f xs) + ones_in (map g xs)
ones-either f g [] = omega arith
ones-either f g (x ∷ xs) = omega (arith, either_value (f x) (g x), ones-either f g xs)

-- the first noise flips at most two bits of a word
at_most_two : (draws : ℕ → ℕ) (k : ℕ) → ones_in (word_of_test (is_flipped draws k)) ≤ 2
at_most_two draws k =
    let one = at_most_one_place (one_place draws k) 0 32 in
    let other = at_most_one_place (other_place draws k) 0 32 in
    let both = ones-either (λ i. i == one_place draws k) (λ i. i == other_place draws k) (range_with_len 0 32) in
    omega (arith, one, other, both)

length-word_of_test : (test : ℕ → Bool) → length (word_of_test test) ≡ 32
length-word_of_test test = length-map-range_with_len test 0 32

-- words through the first noise, from one of its words on
module _ (draws : ℕ → ℕ) (k : ℕ) where
  abbrev noise_at : ℕ → List Bool
  noise_at j = word_of_test (is_flipped draws (k + 3 * j))

  near_from : (a : ℕ) (us : List ℕ) → IsNearWords us (noisy_bits (words_bits us) (flat_map noise_at (range_with_len a (length us))))
  unfolding IsNearWords
  near_from a [] = refl
  near_from a (u ∷ us) =
      let rest = noisy_bits (words_bits us) (flat_map noise_at (range_with_len (a + 1) (length us))) in
      let first = noisy_bits (word_bits u) (noise_at a) in
      let size : length (noise_at a) ≡ length (word_bits u) = length-word_of_test (is_flipped draws (k + 3 * a)) ∙ sym (length-bits_of 32 u) in
      let parts : noisy_bits (words_bits (u ∷ us)) (flat_map noise_at (range_with_len a (suc (length us)))) ≡ first ++ rest =
      noisy-then (word_bits u) (noise_at a) (words_bits us) (flat_map noise_at (range_with_len (a + 1) (length us))) size in
      let long : length first ≡ 32 = length-noisy_bits (word_bits u) (noise_at a) ∙ length-bits_of 32 u in
      let close : dist first (word_bits u) ≤ 2 = (let e = dist-noisy (word_bits u) (noise_at a) size in omega (arith, e, at_most_two draws (k + 3 * a))) in
      subst (IsNearWords (u ∷ us)) (sym parts) (
        omega (arith, length-append first rest, long),
        subst (λ (bits : List Bool). dist bits (word_bits u) ≤ 2) (sym (take_at first rest 32 long)) close,
        subst (IsNearWords us) (sym (drop_at first rest 32 long)) (near_from (a + 1) us),
      )

  clear : (bits : List Bool) (n : ℕ) → noisy_bits bits (replicate n false) ≡ bits
  clear [] n = refl
  clear (b ∷ bits) zero = refl
  clear (b ∷ bits) (suc n) = ap₂ (λ (x : Bool) (xs : List Bool). x ∷ xs) (clear_bit b) (clear bits n)
    where
      clear_bit : (b : Bool) → xor b false ≡ b
      clear_bit true = refl
      clear_bit false = refl

  preamble_is : words_bits preamble ≡ preamble_bits 18
  unfolding preamble
  preamble_is = refl

  -- a transmission of these words behind a preamble
  near_whole : (us : List ℕ) (m : ℕ) → m ≡ length us → IsNearAir (words_bits (preamble ++ us)) (noisy_bits (words_bits (preamble ++ us)) (first_noise draws k m))
  unfolding first_noise
  near_whole us m is =
      let noise = flat_map noise_at (range_with_len 0 m) in
      let body = noisy_bits (words_bits us) noise in
      let size : length (replicate 576 false) ≡ length (preamble_bits 18) = length-replicate 576 false ∙ sym (length-words_bits (replicate 18 filler)) in
      let whole : noisy_bits (words_bits (preamble ++ us)) (replicate 576 false ++ noise) ≡ preamble_bits 18 ++ body =
      ap (λ (bits : List Bool). noisy_bits bits (replicate 576 false ++ noise)) (words_bits-append preamble us ∙ ap (λ (bits : List Bool). bits ++ words_bits us) preamble_is)
      ∙ noisy-then (preamble_bits 18) (replicate 576 false) (words_bits us) noise size
      ∙ ap (λ (bits : List Bool). bits ++ body) (clear (preamble_bits 18) 576) in
      near_air-whole us (noisy_bits (words_bits (preamble ++ us)) (replicate 576 false ++ noise))
      (record {
        body = body;
        whole = whole;
        near = subst (λ (n : ℕ). IsNearWords us (noisy_bits (words_bits us) (flat_map noise_at (range_with_len 0 n)))) (sym is) (near_from 0 us);
      })

-- a transmission of accepted pages, of so many words behind its preamble. That of no page has no bits
pub near_first : (draws : ℕ → ℕ) (k : ℕ) (accepted : List Page) (all : List ℕ) (m : ℕ) → AreWords accepted all → (0 < length all → length all ≡ 18 + m)
    → IsNearAir (words_bits all) (noisy_bits (words_bits all) (first_noise draws k m))
unfolding preamble
near_first draws k [] all m none size =
    subst (λ (ws : List ℕ). IsNearAir (words_bits ws) (noisy_bits (words_bits ws) (first_noise draws k m))) (sym none)
    (record { whole = refl; preamble = refl; words = λ j. (let e = dist-self (word_behind j []) in omega (arith, e)) })
near_first draws k (page ∷ accepted) all m (slots, is_schedule, is) size =
    let us = batches (length slots / 16) slots in
    let front : length (preamble ++ us) ≡ 18 + length us = (let n : length preamble ≡ 18 = length-replicate 18 filler in omega (arith, n, length-append preamble us)) in
    let same : m ≡ length us = (let e = ap length is in omega (arith, e, front, size (omega (arith, e, front)))) in
    subst (λ (ws : List ℕ). IsNearAir (words_bits ws) (noisy_bits (words_bits ws) (first_noise draws k m))) (sym is) (near_whole draws k us m same)
