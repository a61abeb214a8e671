-- The wrong bits of the words of a window.
use Rattle.std.proofs.Common.{◌≡◌, ◌≢◌, ℕ, suc, ◌+◌, ◌-◌, ◌/◌, ◌%◌, ◌^◌, ◌<◌, ◌≤◌, ◌==◌, false, ◌⊎◌, inl, inr, arith, sym, ◌∙◌, ap, bit_or, bit_and, bit_xor}
use Rattle.std.specs.Int.{bit_at, bit_not, w64}
use Rattle.std.specs.Int.Count.{ones, ones_step}
use Rattle.std.proofs.lemmas.Nat.{shr-shr, shr_split, ones_cat, mod_below, pow_pos}
use Rattle.std.proofs.lemmas.Nat.Bits.{bit_at-suc, bit_at-lt, bit_at_or, bit_at_and, bit_at_xor, bit_at_ones, bit_at_not, bit_at_above, bit_at_cat_low}
use Rattle.std.proofs.lemmas.Bool.{cases_lt, lt-leb}
use Rattle.bits.specs.Bits.{bit_value, word_bits, dist}
use Rattle.bits.proofs.Numbers.{below_two, bit_value-eqb}
use Rattle.bits.proofs.Distances.{dist-bits_of}
use Rattle.codeword.specs.declared.words.TheConstants.{SYNC}
use Rattle.receiver.specs.Places.{word_before, HasWrongBit}
use Rattle.receiver.specs.Stretches.{is_sync}

-- ---- a wrong bit of a part

-- the bit at hand
pub wrong_here : (window place first end : ℕ) → first < end → bit_at window place ≢ bit_at SYNC first → HasWrongBit window place first end
wrong_here window place first end lt ne =
    let e : place + (first - first) ≡ place = omega arith in
    record { at = first; from = omega arith; below = lt; differs = λ h. ne (ap (bit_at window) (sym e) ∙ h) }

-- one of those above
pub wrong_above : (window place first end : ℕ) → HasWrongBit window (suc place) (suc first) end → HasWrongBit window place first end
wrong_above window place first end w =
    let e : suc place + (w.at - suc first) ≡ place + (w.at - first) = omega (arith, w.from) in
    record { at = w.at; from = omega (arith, w.from); below = w.below; differs = λ h. w.differs (ap (bit_at window) e ∙ h) }

or_cases : (a b n : ℕ) → bit_at (bit_or a b) n ≡ 1 → (bit_at a n ≡ 1) ⊎ (bit_at b n ≡ 1)
or_cases a b n h =
    let e = bit_at_or a b n in
    elim (below_two (bit_at a n) (bit_at-lt a n)) [
      | inl z ↦ inr (omega arith)
      | inr o ↦ inl o
    ]

-- the masks of the bits from suc first on, one place lower, and those of the bit `first`
pub wrong_more : (window wrong other first end : ℕ) → first < end → ((n : ℕ) → bit_at wrong n ≡ 1 → HasWrongBit window n (suc first) end)
    → ((n : ℕ) → bit_at other n ≡ 1 → bit_at window n ≢ bit_value (SYNC / 2 ^ first % 2 == 1))
    → (n : ℕ) → bit_at (bit_or (wrong / 2) other) n ≡ 1 → HasWrongBit window n first end
wrong_more window wrong other first end lt above here n h =
    elim (or_cases (wrong / 2) other n h) [
      | inl a ↦ wrong_above window n first end (above (suc n) (bit_at-suc wrong n ∙ a))
      | inr b ↦ wrong_here window n first end lt (λ e. here n b (e ∙ sym (bit_value-eqb (bit_at SYNC first) (bit_at-lt SYNC first))))
    ]

-- ---- three wrong bits of a word

-- the ones above one of a number's
ones_above : (x i : ℕ) → bit_at x i ≡ 1 → 1 + ones (x / 2 ^ (i + 1)) ≤ ones x
ones_above x i h =
    let s = ap ones (shr_split x i) in
    let c = ones_cat i (x / 2 ^ i) (x % 2 ^ i) (mod_below x (2 ^ i) (pow_pos i)) in
    let t = ones_step (x / 2 ^ i) in
    let u = ap ones (shr-shr x i 1) in
    omega arith

three_ones : (x i j k : ℕ) → i < j → j < k → bit_at x i ≡ 1 → bit_at x j ≡ 1 → bit_at x k ≡ 1 → 3 ≤ ones x
three_ones x i j k ij jk hi hj hk =
    let y = x / 2 ^ (i + 1) in
    let z = y / 2 ^ (j - (i + 1) + 1) in
    let ej : (i + 1) + (j - (i + 1)) ≡ j = omega arith in
    let ez : (i + 1) + (j - (i + 1) + 1) ≡ j + 1 = omega arith in
    let ek : (j + 1) + (k - (j + 1)) ≡ k = omega arith in
    let at_j : bit_at y (j - (i + 1)) ≡ 1 = ap (λ (n : ℕ). n % 2) (shr-shr x (i + 1) (j - (i + 1))) ∙ ap (bit_at x) ej ∙ hj in
    let z_is : z ≡ x / 2 ^ (j + 1) = shr-shr x (i + 1) (j - (i + 1) + 1) ∙ ap (λ (n : ℕ). x / 2 ^ n) ez in
    let at_k : bit_at z (k - (j + 1)) ≡ 1 =
    ap (λ (n : ℕ). bit_at n (k - (j + 1))) z_is ∙ ap (λ (n : ℕ). n % 2) (shr-shr x (j + 1) (k - (j + 1))) ∙ ap (bit_at x) ek ∙ hk in
    let a = ones_above x i hi in
    let b = ones_above y (j - (i + 1)) at_j in
    let c = ones_above z (k - (j + 1)) at_k in
    omega arith

-- a bit of a number's lowest 32
low_bit : (n i : ℕ) → i < 32 → bit_at (n % 4294967296) i ≡ bit_at n i
low_bit n i h = sym (bit_at_cat_low (n / 2 ^ 32) 32 (n % 2 ^ 32) i h) ∙ ap (λ (m : ℕ). bit_at m i) (shr_split n 32)

-- a wrong bit is a one of the word and the sync word added
one_wrong : (window behind first end : ℕ) → end ≤ 32 → (w : HasWrongBit window (behind + first) first end)
    → bit_at (bit_xor (word_before window behind) SYNC) w.at ≡ 1
one_wrong window behind first end few w =
    let i = w.at in
    let p = w.from in
    let q = w.below in
    let e : (behind + first) + (i - first) ≡ behind + i = omega arith in
    let l : bit_at (word_before window behind) i ≡ bit_at window ((behind + first) + (i - first)) =
    low_bit (window / 2 ^ behind) i (omega arith) ∙ ap (λ (n : ℕ). n % 2) (shr-shr window behind i) ∙ ap (bit_at window) (sym e) in
    let ne = w.differs in
    let x = bit_at_xor (word_before window behind) SYNC i in
    let a = bit_at-lt window ((behind + first) + (i - first)) in
    let b = bit_at-lt SYNC i in
    omega arith

-- a word with a wrong bit in each of three parts
pub far_word : (window behind middle high : ℕ) → HasWrongBit window (behind + 0) 0 middle → HasWrongBit window (behind + middle) middle high
    → HasWrongBit window (behind + high) high 32 → middle ≤ 32 → high ≤ 32 → is_sync (word_before window behind) ≡ false
far_word window behind middle high low mid top m h =
    let word = word_before window behind in
    let three : 3 ≤ ones (bit_xor word SYNC) =
    three_ones (bit_xor word SYNC) low.at mid.at top.at (omega (arith, low.below, mid.from)) (omega (arith, mid.below, top.from))
    (one_wrong window behind 0 middle m low) (one_wrong window behind middle high h mid) (one_wrong window behind high 32 (omega arith) top) in
    let d = dist-bits_of 32 word SYNC (omega arith) (omega arith) in
    lt-leb (dist (word_bits word) (word_bits SYNC)) 2 (omega arith)

-- ---- all words at once

-- a one of three masks that have 32 together
pub all_wrong : (a b c n : ℕ) → bit_and (bit_and a b) c % 4294967296 ≡ 4294967295 → n < 32 → (bit_at a n ≡ 1) × (bit_at b n ≡ 1) × (bit_at c n ≡ 1)
all_wrong a b c n h lt =
    let l = low_bit (bit_and (bit_and a b) c) n lt ∙ bit_at_and (bit_and a b) c n in
    let o : bit_at (bit_and (bit_and a b) c % 4294967296) n ≡ 1 = ap (λ (m : ℕ). bit_at m n) h ∙ bit_at_ones 32 n lt in
    let e = bit_at_and a b n in
    let p = bit_at-lt a n in
    let q = bit_at-lt b n in
    let r = bit_at-lt c n in
    (omega arith, omega arith, omega arith)

-- ---- the bits that differ from one

pub others_of_one : (window n : ℕ) → window < 2 ^ 64 → bit_at (bit_not w64 window) n ≡ 1 → bit_at window n ≢ 1
others_of_one window n small h e =
    elim (cases_lt n 64) [
      | inl lt ↦ let b = bit_at_not w64 window n small lt in omega arith
      | inr ge ↦ let b = bit_at_above (bit_not w64 window) 64 n (omega arith) ge in omega arith
    ]

pub others_of_zero : (window n : ℕ) → bit_at window n ≡ 1 → bit_at window n ≢ 0
others_of_zero window n h e = omega arith

-- ---- masks moved down

-- the bits of a number behind its lowest ones
pub shifted_bit : (n k i : ℕ) → bit_at n (i + k) ≡ bit_at (n / 2 ^ k) i
shifted_bit n k i =
    let e : k + i ≡ i + k = omega arith in
    sym (ap (λ (m : ℕ). m % 2) (shr-shr n k i) ∙ ap (bit_at n) e)
