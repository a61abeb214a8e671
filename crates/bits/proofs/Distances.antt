-- Distances of lists of bits, and the ones of a xor.
use Rattle.std.proofs.Common.{◌≡◌, ℕ, zero, suc, ◌+◌, ◌*◌, ◌/◌, ◌%◌, ◌^◌, ◌<◌, Bool, ◌==◌, List, [], ◌∷◌, ◌++◌, length, arith, sym, ◌∙◌, ap, ap₂, inl, inr, bit_xor, lit<}
use Rattle.std.specs.Int.Count.{ones, ones_step, ones_cat, ones-ones}
use Rattle.bits.specs.Bits.{bits_of, bit_value, xor, dist}
use Rattle.bits.proofs.Lengths.{length-bits_of}
use Rattle.bits.proofs.Numbers.{half_below, below_two, bit_cases}
use Rattle.bits.proofs.Xors.{xor_half, xor_low}

-- one more place at the end
pub dist-snoc : (xs ys : List Bool) (x y : Bool) → length xs ≡ length ys
    → dist (xs ++ x ∷ []) (ys ++ y ∷ []) ≡ dist xs ys + bit_value (xor x y)
dist-snoc [] [] x y h = omega arith
dist-snoc [] (b ∷ ys) x y h = absurd (omega arith)
dist-snoc (a ∷ xs) [] x y h = absurd (omega arith)
dist-snoc (a ∷ xs) (b ∷ ys) x y h = let ih = dist-snoc xs ys x y (omega arith) in omega arith

-- the xor of two bits, as numbers
pub bit_value-xor : (p q : ℕ) → p < 2 → q < 2 → bit_value (xor (p == 1) (q == 1)) ≡ bit_xor p q
bit_value-xor p q hp hq = elim (below_two p hp) [
  | inl p0 ↦ elim (below_two q hq) [ inl q0 ↦ rw (p0, q0) | inr q1 ↦ rw (p0, q1) ]
  | inr p1 ↦ elim (below_two q hq) [ inl q0 ↦ rw (p1, q0) | inr q1 ↦ rw (p1, q1) ]
]

-- 0 has no ones
pub ones-zero : ones 0 ≡ 0
ones-zero = ones-ones 0

-- 1 has one
pub ones-one : ones 1 ≡ 1
ones-one = ones-ones 1

-- the places where the bits of two numbers differ are the ones of their xor
pub dist-bits_of : (k a b : ℕ) → a < 2 ^ k → b < 2 ^ k → dist (bits_of k a) (bits_of k b) ≡ ones (bit_xor a b)
unfolding bits_of
dist-bits_of zero a b ha hb =
    let a0 : a ≡ 0 = omega arith in
    let b0 : b ≡ 0 = omega arith in
    rw (a0, b0) (sym ones-zero)
dist-bits_of (suc k) a b ha hb =
    dist-snoc (bits_of k (a / 2)) (bits_of k (b / 2)) (a % 2 == 1) (b % 2 == 1) (length-bits_of k (a / 2) ∙ sym (length-bits_of k (b / 2)))
    ∙ ap₂ (λ (x y : ℕ). x + y) (dist-bits_of k (a / 2) (b / 2) (half_below k a ha) (half_below k b hb)) (bit_value-xor (a % 2) (b % 2) (omega arith) (omega arith))
    ∙ ap₂ (λ (x y : ℕ). ones x + y) (sym (xor_half a b)) (sym (xor_low a b))
    ∙ (let s = ones_step (bit_xor a b) in omega arith)

-- the ones of a number and one more bit
pub ones-push : (a r : ℕ) → r < 2 → ones (a * 2 + r) ≡ ones a + r
ones-push a r h = elim (below_two r h) [
  | inl z ↦ rw z (ones_cat 1 a 0 (lit< tt) ∙ ap (λ (x : ℕ). ones a + x) ones-zero)
  | inr o ↦ rw o (ones_cat 1 a 1 (lit< tt) ∙ ap (λ (x : ℕ). ones a + x) ones-one)
]

-- the ones of a xor are those of both, without the places where both have one
pub ones-xor : (k a b : ℕ) → a < 2 ^ k → b < 2 ^ k → (m : ℕ) × (ones (bit_xor a b) + 2 * m ≡ ones a + ones b)
ones-xor zero a b ha hb =
    let a0 : a ≡ 0 = omega arith in
    let b0 : b ≡ 0 = omega arith in
    (0, rw (a0, b0) (let z = ones-zero in omega arith))
ones-xor (suc k) a b ha hb =
    let ih = ones-xor k (a / 2) (b / 2) (half_below k a ha) (half_below k b hb) in
    let e : ones (bit_xor a b) ≡ bit_xor (a % 2) (b % 2) + ones (bit_xor (a / 2) (b / 2)) =
    ones_step (bit_xor a b) ∙ ap₂ (λ (x y : ℕ). x + ones y) (xor_low a b) (xor_half a b) in
    let sa = ones_step a in
    let sb = ones_step b in
    elim (bit_cases a) [
      | inl p0 ↦ elim (bit_cases b) [
        | inl q0 ↦ (ih.0, let v : bit_xor (a % 2) (b % 2) ≡ 0 = rw (p0, q0) in omega (arith, ih.1))
        | inr q1 ↦ (ih.0, let v : bit_xor (a % 2) (b % 2) ≡ 1 = rw (p0, q1) in omega (arith, ih.1))
      ]
      | inr p1 ↦ elim (bit_cases b) [
        | inl q0 ↦ (ih.0, let v : bit_xor (a % 2) (b % 2) ≡ 1 = rw (p1, q0) in omega (arith, ih.1))
        | inr q1 ↦ (ih.0 + 1, let v : bit_xor (a % 2) (b % 2) ≡ 0 = rw (p1, q1) in omega (arith, ih.1))
      ]
    ]
