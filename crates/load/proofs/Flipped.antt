-- The bits of words that tests of places give.
use Rattle.std.proofs.Common.{◌≡◌, ℕ, zero, suc, ◌+◌, ◌<◌, ◌^◌, ◌/◌, ◌%◌, ◌==◌, Bool, true, false, ◌||◌, ◌&&◌, List, [], ◌∷◌, map, bit_xor, inl, inr, arith, refl, ap, ap₂, subst, sym, ◌∙◌}
use Rattle.std.proofs.lemmas.Bool.{and_parts, cases_order, eqb-true, or_cases}
use Rattle.std.specs.List.{range_with_len}
use Rattle.bits.specs.Bits.{bits_of, word_bits, xor}
use Rattle.wires.specs.Stacked.{noisy_bits}
use Rattle.listening.proofs.NoisyHeard.{bits_of-xor}
use Rattle.load.specs.Noises.{is_flipped, is_flipped_more, is_third, least_beside, one_place, other_place, word_of_test}

-- a statement of all numbers below one, as a list of statements
abbrev AllBelow : (ℕ → Type 0) → ℕ → Type 0
AllBelow P zero = Unit {0}
AllBelow P (suc n) = P n × AllBelow P n

at_below : (P : ℕ → Type 0) (n k : ℕ) → AllBelow P n → k < n → P k
at_below P zero k h lt = absurd (omega (arith, lt))
at_below P (suc n) k h lt = elim (cases_order k n) [
  | inl same ↦ subst P (sym same) h.0
  | inr (inl less) ↦ at_below P n k h.1 less
  | inr (inr more) ↦ absurd (omega (arith, lt, more))
]

-- a one at one place alone
abbrev IsOneBit : ℕ → Type 0
IsOneBit place = word_bits (2147483648 / 2 ^ place) ≡ word_of_test (λ i. i == place)

one_bits : AllBelow IsOneBit 32
unfolding bits_of
one_bits = (
  refl,
  (
    refl,
    (
      refl,
      (
        refl,
        (
          refl,
          (
            refl,
            (
              refl,
              (
                refl,
                (
                  refl,
                  (
                    refl,
                    (
                      refl,
                      (
                        refl,
                        (
                          refl,
                          (
                            refl,
                            (
                              refl,
                              (
                                refl,
                                (
                                  refl,
                                  (
                                    refl,
                                    (
                                      refl,
                                      (
                                        refl,
                                        (
                                          refl,
                                          (
                                            refl,
                                            (
                                              refl,
                                              (
                                                refl,
                                                (refl, (refl, (refl, (refl, (refl, (refl, (refl, (refl, tt {0})))))))),
                                              ),
                                            ),
                                          ),
                                        ),
                                      ),
                                    ),
                                  ),
                                ),
                              ),
                            ),
                          ),
                        ),
                      ),
                    ),
                  ),
                ),
              ),
            ),
          ),
        ),
      ),
    ),
  ),
)

pub one_bit : (place : ℕ) → place < 32 → word_bits (2147483648 / 2 ^ place) ≡ word_of_test (λ i. i == place)
one_bit place below = at_below IsOneBit 32 place one_bits below

-- none
pub no_bit : (t : Bool) (place : ℕ) → t ≡ false → word_bits 0 ≡ word_of_test (λ i. t && (i == place))
unfolding bits_of
no_bit true place h = absurd (cc)
no_bit false place h = refl

tests_xor : (f g h : ℕ → Bool) → ((i : ℕ) → xor (f i) (g i) ≡ h i) → (xs : List ℕ) → noisy_bits (map f xs) (map g xs) ≡ map h xs
tests_xor f g h same [] = refl
tests_xor f g h same (x ∷ xs) = ap₂ (λ (b : Bool) (bs : List Bool). b ∷ bs) (same x) (tests_xor f g h same xs)

-- the xor of words of two tests
word_xor : (f g h : ℕ → Bool) (u v : ℕ) → word_bits u ≡ word_of_test f → word_bits v ≡ word_of_test g → ((i : ℕ) → xor (f i) (g i) ≡ h i) → word_bits (bit_xor u v) ≡ word_of_test h
word_xor f g h u v first second same =
    bits_of-xor 32 u v ∙ ap₂ noisy_bits first second ∙ tests_xor f g h same (range_with_len 0 32)

-- where two tests don't hold at once
xor_or : (p q : Bool) → (p ≡ true → q ≡ true → ⊥) → xor p q ≡ (p || q)
xor_or true true h = absurd (h refl refl)
xor_or true false h = refl
xor_or false q h = refl

-- the two places differ
places_apart : (p y : ℕ) → p < 32 → y < 31 → p ≡ (p + 1 + y) % 32 → ⊥
places_apart p y small few e = omega (arith, e, small, few)

module _ (draws : ℕ → ℕ) (k : ℕ) where
  one_small : one_place draws k < 32
  one_small = omega arith

  apart : one_place draws k ≡ other_place draws k → ⊥
  apart e = let few : draws (k + 1) % 31 < 31 = omega arith in places_apart (one_place draws k) (draws (k + 1) % 31) one_small few e

  -- two bits
  pub two_bits : (a x u v : ℕ) → a ≡ draws k % 32 → x ≡ draws (k + 1) % 31 → word_bits u ≡ word_of_test (λ i. i == a) → word_bits v ≡ word_of_test (λ i. i == ((a + 1 + x) % 32))
      → word_bits (bit_xor u v) ≡ word_of_test (is_flipped draws k)
  two_bits a x u v first further one other =
      word_xor (λ i. i == one_place draws k) (λ i. i == other_place draws k) (is_flipped draws k) u v
      (one ∙ ap (λ (y : ℕ). word_of_test (λ i. i == y)) first)
      (other ∙ ap₂ (λ (y z : ℕ). word_of_test (λ i. i == ((y + 1 + z) % 32))) first further)
      (λ i. xor_or (i == one_place draws k) (i == other_place draws k)
      (λ p q. apart (sym (eqb-true i (one_place draws k) p) ∙ eqb-true i (other_place draws k) q)))

  -- and a third
  pub three_bits : (is_slot : Bool) (a x c d u v w : ℕ) → a ≡ draws k % 32 → x ≡ draws (k + 1) % 31 → c ≡ draws (k + 2) % 64
      → d ≡ least_beside a ((a + 1 + x) % 32) → (d ≡ a → ⊥) → (d ≡ (a + 1 + x) % 32 → ⊥)
      → word_bits u ≡ word_of_test (λ i. i == a) → word_bits v ≡ word_of_test (λ i. i == ((a + 1 + x) % 32))
      → word_bits w ≡ word_of_test (λ i. (is_slot && (c == 0)) && (i == d))
      → word_bits (bit_xor (bit_xor u v) w) ≡ word_of_test (is_flipped_more draws k is_slot)
  three_bits is_slot a x c d u v w first further last least not_one not_other one other third =
      let b : (a + 1 + x) % 32 ≡ other_place draws k = ap₂ (λ (y z : ℕ). (y + 1 + z) % 32) first further in
      let place : d ≡ least_beside (one_place draws k) (other_place draws k) = least ∙ ap₂ least_beside first b in
      word_xor (is_flipped draws k) (λ i. (is_slot && is_third draws k) && (i == least_beside (one_place draws k) (other_place draws k))) (is_flipped_more draws k is_slot) (bit_xor u v) w
      (two_bits a x u v first further one other)
      (third ∙ ap₂ (λ (y z : ℕ). word_of_test (λ i. (is_slot && (y == 0)) && (i == z))) last place)
      (λ i. xor_or (is_flipped draws k i) ((is_slot && is_third draws k) && (i == least_beside (one_place draws k) (other_place draws k)))
      (λ p q.
      let at : i ≡ d = eqb-true i (least_beside (one_place draws k) (other_place draws k)) (and_parts (is_slot && is_third draws k) (i == least_beside (one_place draws k) (other_place draws k)) q).1 ∙ sym place in
      elim (or_cases (i == one_place draws k) (i == other_place draws k) p) [
        | inl e ↦ not_one (sym at ∙ eqb-true i (one_place draws k) e ∙ sym first)
        | inr e ↦ not_other (sym at ∙ eqb-true i (other_place draws k) e ∙ sym b)
      ]))
