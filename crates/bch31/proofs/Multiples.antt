-- A polynomial of 31 coefficients has remainder 0 exactly if it is a xor of shifts of the generator.
use Rattle.std.proofs.Common.{◌≡◌, ℕ, zero, suc, ◌+◌, ◌-◌, ◌*◌, ◌/◌, ◌^◌, ◌<◌, ◌≤◌, Bool, true, false, ◌&&◌, ◌==◌, if◌then◌else◌, List, [], ◌∷◌, length, arith, refl, sym, ◌∙◌, ap, ap₂, inl, inr, bit_xor, lit<, subst}
use Rattle.std.proofs.lemmas.Bool.{and_parts, eqb-true, cases_lt}
use Rattle.std.specs.Int.Bits.{xor_block, xor_lt, xor_assoc, xor_zero_r}
use Rattle.std.proofs.Math.Pow.{pow_pos, pow-add}
use Rattle.std.proofs.Math.Nat.{pow-suc}
use Rattle.bits.proofs.Xors.{same_from_xor}
use Rattle.bch31.specs.Codeword.{generator, chosen_shifts, IsCodeword}
use Rattle.bch31.specs.Division.{remainder}
use Rattle.bch31.proofs.Remainders.{low_generator, remainder-xor, remainder-small}

-- the test holds of each number below n
unfoldable pub all_below : (ℕ → Bool) → ℕ → Bool
all_below p zero = true
all_below p (suc n) = p n && all_below p n

-- each of the 21 shifts of the generator has remainder 0
shifts_vanish : all_below (λ n. remainder 31 (generator * 2 ^ n) == 0) 21 ≡ true
unfolding all_below remainder
shifts_vanish = refl

-- and so of one of them
pub all_below_at : (p : ℕ → Bool) (n k : ℕ) → all_below p n ≡ true → k < n → p k ≡ true
unfolding all_below
all_below_at p zero k h lt = absurd (omega arith)
all_below_at p (suc n) k h lt =
    let parts = and_parts (p n) (all_below p n) h in
    elim (cases_lt k n) [
      | inl below ↦ all_below_at p n k parts.1 below
      | inr top ↦
          let e : k ≡ n = omega arith in
          rw e parts.0
    ]

-- the same of one shift
shift_remainder : (n : ℕ) → n < 21 → remainder 31 (generator * 2 ^ n) ≡ 0
shift_remainder n h = eqb-true (remainder 31 (generator * 2 ^ n)) 0 (all_below_at (λ n. remainder 31 (generator * 2 ^ n) == 0) 21 n shifts_vanish h)

-- nothing has remainder 0
zero_remainder : remainder 31 0 ≡ 0
unfolding remainder
zero_remainder = refl

-- a shift or nothing has remainder 0
choice_remainder : (b : Bool) (n : ℕ) → n < 21 → remainder 31 (if b then generator * 2 ^ n else 0) ≡ 0
choice_remainder true n h = shift_remainder n h
choice_remainder false n h = zero_remainder

-- a xor of shifts of the generator has remainder 0
pub chosen_remainder : (bs : List Bool) → length bs ≤ 21 → remainder 31 (chosen_shifts bs) ≡ 0
chosen_remainder [] h = zero_remainder
chosen_remainder (b ∷ bs) h =
    remainder-xor 31 (if b then generator * 2 ^ length bs else 0) (chosen_shifts bs)
    ∙ ap₂ bit_xor (choice_remainder b (length bs) h) (chosen_remainder bs (omega arith))

-- a shift of the generator below the next power of two
shift_splits : (n : ℕ) → generator * 2 ^ n ≡ 1 * 2 ^ (n + 10) + low_generator * 2 ^ n
shift_splits n = let e : 2 ^ (n + 10) ≡ 2 ^ n * 1024 = pow-add 2 n 10 in omega arith

-- a shift by n, or nothing, has n + 11 bits
choice-lt : (b : Bool) (n : ℕ) → (if b then generator * 2 ^ n else 0) < 2 ^ (suc n + 10)
choice-lt true n =
    let e : 2 ^ (suc n + 10) ≡ 2 ^ n * 2048 = pow-add 2 (suc n) 10 ∙ ap (λ (x : ℕ). x * 1024) (pow-suc 2 n) ∙ omega arith in
    let pos = pow_pos n in
    omega arith
choice-lt false n = pow_pos (suc n + 10)

-- a xor of n shifts has n + 10 bits
pub chosen-lt : (bs : List Bool) → chosen_shifts bs < 2 ^ (length bs + 10)
chosen-lt [] = lit< tt
chosen-lt (b ∷ bs) =
    let ih = chosen-lt bs in
    let e : 2 ^ (suc (length bs) + 10) ≡ 2 ^ (length bs + 10) * 2 = ap (λ (x : ℕ). 2 ^ x) (omega arith) ∙ pow-suc 2 (length bs + 10) in
    xor_lt (suc (length bs) + 10) (if b then generator * 2 ^ length bs else 0) (chosen_shifts bs) (choice-lt b (length bs)) (omega arith)

-- without its highest bit it has n + 10 bits
low_shift : (n : ℕ) → low_generator * 2 ^ n < 2 ^ (n + 10)
low_shift n = let e : 2 ^ (n + 10) ≡ 2 ^ n * 1024 = pow-add 2 n 10 in let pos = pow_pos n in omega arith

-- ten bits are left of x once n chosen shifts are taken off
record Division (n x : ℕ) : Type 0 where
  pub shifts : List Bool
  pub shifts_len : length shifts ≡ n
  pub rest-lt : bit_xor x (chosen_shifts shifts) < 1024

-- a shift takes the highest bit off
shift_taken : (n rest : ℕ) → rest < 2 ^ (n + 10) → bit_xor (2 ^ (n + 10) + rest) (generator * 2 ^ n) ≡ bit_xor rest (low_generator * 2 ^ n)
shift_taken n rest h =
    let one : 2 ^ (n + 10) + rest ≡ 1 * 2 ^ (n + 10) + rest = omega arith in
    let gone : 0 * 2 ^ (n + 10) + bit_xor rest (low_generator * 2 ^ n) ≡ bit_xor rest (low_generator * 2 ^ n) = omega arith in
    ap₂ bit_xor one (shift_splits n) ∙ xor_block (n + 10) 1 1 rest (low_generator * 2 ^ n) h (low_shift n) ∙ gone

-- one more shift, where the highest bit is a one
divide_high : (n rest : ℕ) → rest < 2 ^ (n + 10) → Division n (bit_xor rest (low_generator * 2 ^ n)) → Division (suc n) (2 ^ (n + 10) + rest)
divide_high n rest h d = record {
  shifts = true ∷ d.shifts;
  shifts_len = ap suc d.shifts_len;
  rest-lt =
      let same : bit_xor (2 ^ (n + 10) + rest) (bit_xor (generator * 2 ^ length d.shifts) (chosen_shifts d.shifts)) ≡ bit_xor (bit_xor rest (low_generator * 2 ^ n)) (chosen_shifts d.shifts) =
      ap (λ (m : ℕ). bit_xor (2 ^ (n + 10) + rest) (bit_xor (generator * 2 ^ m) (chosen_shifts d.shifts))) d.shifts_len
      ∙ sym (xor_assoc (2 ^ (n + 10) + rest) (generator * 2 ^ n) (chosen_shifts d.shifts))
      ∙ ap (λ (y : ℕ). bit_xor y (chosen_shifts d.shifts)) (shift_taken n rest h) in
      rw same d.rest-lt;
}

-- long division
divide : (n x : ℕ) → x < 2 ^ (n + 10) → Division n x
divide zero x h =
    let e : bit_xor x 0 ≡ x = xor_zero_r x in
    record { shifts = []; shifts_len = refl; rest-lt = rw e h }
divide (suc n) x h =
    let e : 2 ^ (suc n + 10) ≡ 2 ^ (n + 10) * 2 = ap (λ (y : ℕ). 2 ^ y) (omega arith) ∙ pow-suc 2 (n + 10) in
    elim (cases_lt x (2 ^ (n + 10))) [
      | inl low ↦
          let d = divide n x low in
          record { shifts = false ∷ d.shifts; shifts_len = ap suc d.shifts_len; rest-lt = d.rest-lt }
      | inr high ↦
          let rest : ℕ = x - 2 ^ (n + 10) in
          let whole : 2 ^ (n + 10) + rest ≡ x = omega arith in
          let small : rest < 2 ^ (n + 10) = omega arith in
          let d = divide n (bit_xor rest (low_generator * 2 ^ n)) (xor_lt (n + 10) rest (low_generator * 2 ^ n) small (low_shift n)) in
          subst (λ (y : ℕ). Division (suc n) y) whole (divide_high n rest small d)
    ]

-- a polynomial of 31 coefficients with remainder 0 is a multiple
pub multiple_from_remainder : (x : ℕ) → x < 2 ^ 31 → remainder 31 x ≡ 0 → (bs : List Bool) × (length bs ≡ 21) × (x ≡ chosen_shifts bs)
multiple_from_remainder x h z =
    let d = divide 21 x h in
    let c : remainder 31 (bit_xor x (chosen_shifts d.shifts)) ≡ 0 =
    remainder-xor 31 x (chosen_shifts d.shifts) ∙ ap₂ bit_xor z (chosen_remainder d.shifts (omega (arith, d.shifts_len))) in
    let wide : bit_xor x (chosen_shifts d.shifts) < 2 ^ 31 = omega (arith, d.rest-lt) in
    let s = remainder-small 31 (bit_xor x (chosen_shifts d.shifts)) d.rest-lt wide in
    (d.shifts, d.shifts_len, same_from_xor x (chosen_shifts d.shifts) (sym s ∙ c))

-- the first 31 bits of a codeword
pub codeword_half-lt : {v : ℕ} → IsCodeword v → v / 2 < 2 ^ 31
codeword_half-lt c =
    let h = chosen-lt c.shifts in
    let e : length c.shifts + 10 ≡ 31 = omega (arith, c.shifts_len) in
    let k : chosen_shifts c.shifts < 2 ^ 31 = rw e at h in
    rw c.multiple k

-- they have remainder 0
pub codeword_remainder : {v : ℕ} → IsCodeword v → remainder 31 (v / 2) ≡ 0
codeword_remainder c = rw c.multiple (chosen_remainder c.shifts (omega (arith, c.shifts_len)))
