-- A test over every number of k bits that has few ones.
use Rattle.std.proofs.Common.{◌≡◌, ℕ, zero, suc, ◌+◌, ◌*◌, ◌/◌, ◌%◌, ◌^◌, ◌<◌, ◌≤◌, Bool, true, ◌&&◌, arith, sym, inl, inr, subst}
use Rattle.std.proofs.lemmas.Bool.{and_parts}
use Rattle.std.specs.Int.Count.{ones, ones_step}
use Rattle.bits.proofs.Numbers.{half_below, bit_cases}

-- the test holds of each number of k bits of which at most n are ones
unfoldable pub all_light : ℕ → ℕ → (ℕ → Bool) → Bool
all_light zero n p = p 0
all_light (suc k) zero p = p 0
all_light (suc k) (suc n) p = all_light k (suc n) (λ x. p (x * 2)) && all_light k n (λ x. p (x * 2 + 1))

-- a number with no ones is 0
pub no_ones : (k e : ℕ) → e < 2 ^ k → ones e ≤ 0 → e ≡ 0
no_ones zero e h o = omega arith
no_ones (suc k) e h o =
    let s = ones_step e in
    let ih = no_ones k (e / 2) (half_below k e h) (omega arith) in
    omega arith

-- the test at one of these numbers
pub all_light_at : (k n : ℕ) (p : ℕ → Bool) → all_light k n p ≡ true → (e : ℕ) → e < 2 ^ k → ones e ≤ n → p e ≡ true
unfolding all_light
all_light_at zero n p h e lt o = let z : e ≡ 0 = omega arith in rw z h
all_light_at (suc k) zero p h e lt o = rw (no_ones (suc k) e lt o) h
all_light_at (suc k) (suc n) p h e lt o =
    let parts = and_parts (all_light k (suc n) (λ x. p (x * 2))) (all_light k n (λ x. p (x * 2 + 1))) h in
    let s = ones_step e in
    let half = half_below k e lt in
    let even : e % 2 ≡ 0 → p (e / 2 * 2) ≡ true = λ z. all_light_at k (suc n) (λ x. p (x * 2)) parts.0 (e / 2) half (omega arith) in
    let odd : e % 2 ≡ 1 → p (e / 2 * 2 + 1) ≡ true = λ z. all_light_at k n (λ x. p (x * 2 + 1)) parts.1 (e / 2) half (omega arith) in
    elim (bit_cases e) [
      | inl z ↦ let w : e ≡ e / 2 * 2 = omega arith in subst (λ (x : ℕ). p x ≡ true) (sym w) (even z)
      | inr z ↦ let w : e ≡ e / 2 * 2 + 1 = omega arith in subst (λ (x : ℕ). p x ≡ true) (sym w) (odd z)
    ]
