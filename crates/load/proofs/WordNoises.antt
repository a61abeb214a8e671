-- The noises word by word.
use Rattle.std.proofs.Common.{◌≡◌, ℕ, zero, suc, ◌+◌, ◌-◌, ◌*◌, ◌<◌, ◌≤◌, Bool, false, List, [], ◌∷◌, ◌++◌, flat_map, length, length-append, append-nil, append_assoc, bit_xor, add-one, arith, refl, ap, ap₂, sym, ◌∙◌}
use Rattle.std.specs.Prelude.{replicate}
use Rattle.std.proofs.lemmas.List.{length-replicate}
use Rattle.std.proofs.lemmas.List.FromFn.{length-map-range_with_len, length-range_with_len}
use Rattle.std.specs.List.{range_with_len}
use Rattle.bits.specs.Bits.{bits_of, word_bits, words_bits, xor}
use Rattle.bits.proofs.Bytes.{words_bits-append}
use Rattle.bits.proofs.Lengths.{length-words_bits}
use Rattle.listening.proofs.NoisyHeard.{bits_of-xor}
use Rattle.wires.specs.Stacked.{noisy_bits}
use Rattle.load.specs.Noises.{first_noise, second_noise, is_flipped, is_flipped_more, is_slot_word, word_of_test}
use Rattle.load.specs.WordNoises.{first_noise_front, first_word_noise, none_in_preamble, second_noise_front, second_word_noise}
use Rattle.load.proofs.Drawn.{flat_map-range-more}

-- in the preamble, and behind it
pub in_preamble : (n : ℕ) (noise : List Bool) → n < 18 → none_in_preamble (18 - n) noise ≡ replicate 32 false
in_preamble n noise less =
    let e : 18 - n ≡ suc (17 - n) = omega (arith, less) in
    ap (λ (m : ℕ). none_in_preamble m noise) e

pub behind_preamble : (n : ℕ) (noise : List Bool) → 18 ≤ n → none_in_preamble (18 - n) noise ≡ noise
behind_preamble n noise more =
    let e : 18 - n ≡ 0 = omega (arith, more) in
    ap (λ (m : ℕ). none_in_preamble m noise) e

-- each is of 32 bits
length-none_in_preamble : (m : ℕ) (test : ℕ → Bool) → length (none_in_preamble m (word_of_test test)) ≡ 32
length-none_in_preamble zero test = length-map-range_with_len test 0 32
length-none_in_preamble (suc m) test = length-replicate 32 false

pub length-first_word_noise : (draws : ℕ → ℕ) (k n : ℕ) → length (first_word_noise draws k n) ≡ 32
length-first_word_noise draws k n = length-none_in_preamble (18 - n) (is_flipped draws (k + 3 * (n - 18)))

pub length-second_word_noise : (draws : ℕ → ℕ) (k n : ℕ) → length (second_word_noise draws k n) ≡ 32
length-second_word_noise draws k n = length-none_in_preamble (18 - n) (is_flipped_more draws (k + 3 * (n - 18)) (is_slot_word (n - 18)))

-- some bits more, and as many of the noise
pub noisy-then : (bits noise more flips : List Bool) → length noise ≡ length bits → noisy_bits (bits ++ more) (noise ++ flips) ≡ noisy_bits bits noise ++ noisy_bits more flips
noisy-then [] [] more flips e = refl
noisy-then [] (m ∷ noise) more flips e = absurd (omega (arith, e))
noisy-then (c ∷ bits) [] more flips e = absurd (omega (arith, e))
noisy-then (c ∷ bits) (m ∷ noise) more flips e = ap (λ (xs : List Bool). xor c m ∷ xs) (noisy-then bits noise more flips (omega (arith, e)))

module _ (noise : ℕ → List Bool) (size : (n : ℕ) → length (noise n) ≡ 32) where
  length-words : (xs : List ℕ) → length (flat_map noise xs) ≡ 32 * length xs
  length-words [] = refl
  length-words (x ∷ xs) = omega (arith, length-append (noise x) (flat_map noise xs), size x, length-words xs)

  length-front : (n : ℕ) → length (flat_map noise (range_with_len 0 n)) ≡ 32 * n
  length-front n = length-words (range_with_len 0 n) ∙ ap (λ (m : ℕ). 32 * m) (length-range_with_len 0 n)

  -- one word more, with its noise
  pub noisy-word : (seen : List ℕ) (word flips n : ℕ) → n ≡ length seen → word_bits flips ≡ noise n
      → noisy_bits (words_bits seen) (flat_map noise (range_with_len 0 n)) ++ word_bits (bit_xor word flips)
      ≡ noisy_bits (words_bits (seen ++ word ∷ [])) (flat_map noise (range_with_len 0 (n + 1)))
  noisy-word seen word flips n is same =
      let front = flat_map noise (range_with_len 0 n) in
      let long : length front ≡ length (words_bits seen) = length-front n ∙ ap (λ (m : ℕ). 32 * m) is ∙ sym (length-words_bits seen) in
      ap (λ (l : List Bool). noisy_bits (words_bits seen) front ++ l) (bits_of-xor 32 word flips ∙ ap (noisy_bits (word_bits word)) same)
      ∙ sym (noisy-then (words_bits seen) front (word_bits word) (noise n) long)
      ∙ ap₂ noisy_bits (sym (words_bits-append seen (word ∷ []) ∙ ap (λ (l : List Bool). words_bits seen ++ l) (append-nil (word_bits word)))) (sym (flat_map-range-more noise n))

-- the noises of a whole transmission
pub whole-first : (draws : ℕ → ℕ) (k m : ℕ) → first_noise_front draws k (18 + m) ≡ first_noise draws k m
unfolding first_noise
whole-first draws k zero = refl
whole-first draws k (suc m) =
    let next : 18 + suc m ≡ 18 + m + 1 = omega arith in
    let behind : 18 + m - 18 ≡ m = omega arith in
    let late : 18 ≤ 18 + m = omega arith in
    ap (first_noise_front draws k) next
    ∙ flat_map-range-more (first_word_noise draws k) (18 + m)
    ∙ ap₂ (λ (x y : List Bool). x ++ y) (whole-first draws k m)
    (behind_preamble (18 + m) (word_of_test (is_flipped draws (k + 3 * (18 + m - 18)))) late ∙ ap (λ (j : ℕ). word_of_test (is_flipped draws (k + 3 * j))) behind)
    ∙ append_assoc (replicate 576 false) (flat_map (λ j. word_of_test (is_flipped draws (k + 3 * j))) (range_with_len 0 m)) (word_of_test (is_flipped draws (k + 3 * m)))
    ∙ ap (λ (l : List Bool). replicate 576 false ++ l) (sym (flat_map-range-more (λ j. word_of_test (is_flipped draws (k + 3 * j))) m))
    ∙ ap (λ (n : ℕ). replicate 576 false ++ flat_map (λ j. word_of_test (is_flipped draws (k + 3 * j))) (range_with_len 0 n)) (add-one m)

pub whole-second : (draws : ℕ → ℕ) (k m : ℕ) → second_noise_front draws k (18 + m) ≡ second_noise draws k m
unfolding second_noise
whole-second draws k zero = refl
whole-second draws k (suc m) =
    let next : 18 + suc m ≡ 18 + m + 1 = omega arith in
    let behind : 18 + m - 18 ≡ m = omega arith in
    let late : 18 ≤ 18 + m = omega arith in
    ap (second_noise_front draws k) next
    ∙ flat_map-range-more (second_word_noise draws k) (18 + m)
    ∙ ap₂ (λ (x y : List Bool). x ++ y) (whole-second draws k m)
    (behind_preamble (18 + m) (word_of_test (is_flipped_more draws (k + 3 * (18 + m - 18)) (is_slot_word (18 + m - 18)))) late ∙ ap (λ (j : ℕ). word_of_test (is_flipped_more draws (k + 3 * j) (is_slot_word j))) behind)
    ∙ append_assoc (replicate 576 false) (flat_map (λ j. word_of_test (is_flipped_more draws (k + 3 * j) (is_slot_word j))) (range_with_len 0 m)) (word_of_test (is_flipped_more draws (k + 3 * m) (is_slot_word m)))
    ∙ ap (λ (l : List Bool). replicate 576 false ++ l) (sym (flat_map-range-more (λ j. word_of_test (is_flipped_more draws (k + 3 * j) (is_slot_word j))) m))
    ∙ ap (λ (n : ℕ). replicate 576 false ++ flat_map (λ j. word_of_test (is_flipped_more draws (k + 3 * j) (is_slot_word j))) (range_with_len 0 n)) (add-one m)

-- a word that no noise flips, in the preamble
pub clear_word : (n : ℕ) (noise : List Bool) → n < 18 → word_bits 0 ≡ none_in_preamble (18 - n) noise
unfolding bits_of
clear_word n noise less = sym (in_preamble n noise less)
