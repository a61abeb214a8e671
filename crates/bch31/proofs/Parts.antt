-- The remainder of 31 bits from three tables.
use Rattle.std.proofs.Common.{◌≡◌, ℕ, ◌+◌, ◌*◌, ◌/◌, ◌%◌, ◌^◌, ◌<◌, Bool, true, ◌==◌, List, arith, refl, sym, ◌∙◌, ap, ap₂, bit_xor, bit_and, slice_index}
use Rattle.std.proofs.lemmas.Bool.{eqb-true}
use Rattle.std.proofs.Math.Pow.{pow_pos}
use Rattle.std.specs.Int.Bits.{xor_block, xor_zero_l, xor_zero_r, and_mask}
use Rattle.bch31.specs.declared.division.TheConstants.{LOW_REMAINDERS, MIDDLE_REMAINDERS, HIGH_REMAINDERS}
use Rattle.bch31.specs.Division.{remainder}
use Rattle.bch31.proofs.Remainders.{remainder-xor, remainder-small}
use Rattle.bch31.proofs.Multiples.{all_below, all_below_at}

-- at place i of the table stands the remainder of i with k zeros behind it
abbrev is_entry : List ℕ → ℕ → ℕ → Bool
is_entry table k i = slice_index table i == remainder 31 (i * 2 ^ k)

-- each entry of the table of the low bits, computed
low_entries : all_below (is_entry LOW_REMAINDERS 10) 128 ≡ true
unfolding all_below remainder
low_entries = refl

-- each entry of the table of the middle bits, computed
middle_entries : all_below (is_entry MIDDLE_REMAINDERS 17) 128 ≡ true
unfolding all_below remainder
middle_entries = refl

-- each entry of the table of the high bits, computed
high_entries : all_below (is_entry HIGH_REMAINDERS 24) 128 ≡ true
unfolding all_below remainder
high_entries = refl

-- an entry of a table that was tested whole
entry : (table : List ℕ) (k i : ℕ) → all_below (is_entry table k) 128 ≡ true → i < 128 → slice_index table i ≡ remainder 31 (i * 2 ^ k)
entry table k i h lt = eqb-true (slice_index table i) (remainder 31 (i * 2 ^ k)) (all_below_at (is_entry table k) 128 i h lt)

-- bits behind k zeros, joined to k bits
behind : (k high low : ℕ) → low < 2 ^ k → bit_xor low (high * 2 ^ k) ≡ high * 2 ^ k + low
behind k high low h =
    let a : low ≡ 0 * 2 ^ k + low = omega arith in
    let b : high * 2 ^ k ≡ high * 2 ^ k + 0 = omega arith in
    ap₂ bit_xor a b ∙ xor_block k 0 high low 0 h (pow_pos k) ∙ ap₂ (λ (x y : ℕ). x * 2 ^ k + y) (xor_zero_l high) (xor_zero_r low)

-- 31 bits cut into 10, 7, 7 and 7
parts : (x : ℕ) → bit_xor (bit_xor (bit_xor (x % 1024) (x / 1024 % 128 * 1024)) (x / 131072 % 128 * 131072)) (x / 16777216 * 16777216) ≡ x
parts x =
    let a : bit_xor (x % 1024) (x / 1024 % 128 * 1024) ≡ x % 131072 = behind 10 (x / 1024 % 128) (x % 1024) (omega arith) ∙ omega arith in
    let b : bit_xor (x % 131072) (x / 131072 % 128 * 131072) ≡ x % 16777216 = behind 17 (x / 131072 % 128) (x % 131072) (omega arith) ∙ omega arith in
    let c : bit_xor (x % 16777216) (x / 16777216 * 16777216) ≡ x = behind 24 (x / 16777216) (x % 16777216) (omega arith) ∙ omega arith in
    ap (λ (y : ℕ). bit_xor (bit_xor y (x / 131072 % 128 * 131072)) (x / 16777216 * 16777216)) a
    ∙ ap (λ (y : ℕ). bit_xor y (x / 16777216 * 16777216)) b
    ∙ c

-- the remainders of the parts
remainder_parts : (x : ℕ) → remainder 31 x
    ≡ bit_xor (bit_xor (bit_xor (x % 1024) (remainder 31 (x / 1024 % 128 * 1024))) (remainder 31 (x / 131072 % 128 * 131072))) (remainder 31 (x / 16777216 * 16777216))
remainder_parts x =
    let r = remainder-xor 31 in
    ap (remainder 31) (sym (parts x))
    ∙ r (bit_xor (bit_xor (x % 1024) (x / 1024 % 128 * 1024)) (x / 131072 % 128 * 131072)) (x / 16777216 * 16777216)
    ∙ ap (λ (y : ℕ). bit_xor y (remainder 31 (x / 16777216 * 16777216)))
    (r (bit_xor (x % 1024) (x / 1024 % 128 * 1024)) (x / 131072 % 128 * 131072)
    ∙ ap (λ (y : ℕ). bit_xor y (remainder 31 (x / 131072 % 128 * 131072)))
    (r (x % 1024) (x / 1024 % 128 * 1024)
    ∙ ap (λ (y : ℕ). bit_xor y (remainder 31 (x / 1024 % 128 * 1024))) (remainder-small 31 (x % 1024) (omega arith) (omega arith))))

-- three looks into the tables and the ten lowest bits
pub divided : (x : ℕ) → x < 2 ^ 31
    → bit_xor (bit_xor (bit_xor (bit_and x 1023) (slice_index LOW_REMAINDERS (bit_and (x / 1024) 127))) (slice_index MIDDLE_REMAINDERS (bit_and (x / 131072) 127)))
    (slice_index HIGH_REMAINDERS (x / 16777216)) ≡ remainder 31 x
divided x h =
    let ten : bit_and x 1023 ≡ x % 1024 = and_mask x 10 in
    let low : slice_index LOW_REMAINDERS (bit_and (x / 1024) 127) ≡ remainder 31 (x / 1024 % 128 * 1024) =
    ap (slice_index LOW_REMAINDERS) (and_mask (x / 1024) 7) ∙ entry LOW_REMAINDERS 10 (x / 1024 % 128) low_entries (omega arith) in
    let middle : slice_index MIDDLE_REMAINDERS (bit_and (x / 131072) 127) ≡ remainder 31 (x / 131072 % 128 * 131072) =
    ap (slice_index MIDDLE_REMAINDERS) (and_mask (x / 131072) 7) ∙ entry MIDDLE_REMAINDERS 17 (x / 131072 % 128) middle_entries (omega arith) in
    let high : slice_index HIGH_REMAINDERS (x / 16777216) ≡ remainder 31 (x / 16777216 * 16777216) = entry HIGH_REMAINDERS 24 (x / 16777216) high_entries (omega arith) in
    ap₂ bit_xor (ap₂ bit_xor (ap₂ bit_xor ten low) middle) high ∙ sym (remainder_parts x)
