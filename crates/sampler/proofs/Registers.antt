-- Runs of equal bits in registers.
use Rattle.std.proofs.Common.{◌≡◌, ℕ, zero, suc, ◌+◌, ◌-◌, ◌*◌, ◌/◌, ◌%◌, ◌^◌, ◌<◌, ◌≤◌, ◌==◌, nat_lt, Bool, true, false, List, ◌∷◌, ◌++◌, length, replicate, refl, sym, ◌∙◌, ap, ap₂, arith}
use Rattle.std.proofs.Math.Nat.{div-eq_of_lt, mul-add-div_right, mod-eq_of_lt}
use Rattle.std.proofs.Math.Pow.{pow_mono, pow_pos}
use Rattle.std.proofs.lemmas.Bool.Decides.{nat_tests}
use Rattle.std.proofs.lemmas.Nat.{mul-le, one_shl}
use Rattle.bits.specs.Bits.{bits_of}
use Rattle.bits.proofs.Bytes.{bits_of-add}
use Rattle.bits.proofs.Lengths.{length-bits_of}
use Rattle.bits.proofs.Registers.{bits_of-mod}
use Rattle.wires.proofs.Pieces.{first_bit, low_bits}

-- a number of which no bit is set
pub zeros : (n : ℕ) → bits_of n 0 ≡ replicate n false
unfolding bits_of
zeros zero = refl
zeros (suc n) =
    let p = pow_pos n in
    let e : 0 / 2 ^ n ≡ 0 = div-eq_of_lt p in
    first_bit n 0 ∙ ap₂ (λ (k : ℕ) (bs : List Bool). (k % 2 == 1) ∷ bs) e (zeros n)

-- one of which all are set
pub all_set : (n w : ℕ) → w + 1 ≡ 2 ^ n → bits_of n w ≡ replicate n true
unfolding bits_of
all_set zero w h = refl
all_set (suc n) w h =
    let p = pow_pos n in
    let s : 2 ^ suc n ≡ 2 * 2 ^ n = omega arith in
    let e : w ≡ 1 * 2 ^ n + (2 ^ n - 1) = omega arith in
    let d : w / 2 ^ n ≡ 1 = ap (λ (k : ℕ). k / 2 ^ n) e ∙ (mul-add-div_right p 1 (2 ^ n - 1) ∙ ap (λ (k : ℕ). 1 + k) (div-eq_of_lt (omega arith))) in
    let m : w % 2 ^ n ≡ 2 ^ n - 1 = ap (λ (k : ℕ). k % 2 ^ n) e ∙ (Rattle.std.proofs.Math.Nat.mul-add-mod_self_right 1 (2 ^ n) (2 ^ n - 1) ∙ mod-eq_of_lt (omega arith)) in
    let rest : bits_of n w ≡ replicate n true = sym (low_bits n w) ∙ (ap (bits_of n) m ∙ all_set n (2 ^ n - 1) (omega arith)) in
    first_bit n w ∙ ap₂ (λ (k : ℕ) (bs : List Bool). (k % 2 == 1) ∷ bs) d rest

-- n equal bits behind others, in a register of 32
pub pushed : (count n bits run : ℕ) (value : Bool) → count + n ≤ 32 → run < 2 ^ n → bits_of n run ≡ replicate n value → bits_of (count + n) ((bits * 2 ^ n + run) % 4294967296) ≡ bits_of count bits ++ replicate n value
pushed count n bits run value few small is =
    let p = pow_pos n in
    let e : count + n + (32 - (count + n)) ≡ 32 = omega (arith, few) in
    let d : (bits * 2 ^ n + run) / 2 ^ n ≡ bits = mul-add-div_right p bits run ∙ (ap (λ (k : ℕ). bits + k) (div-eq_of_lt small) ∙ omega arith) in
    let m : (bits * 2 ^ n + run) % 2 ^ n ≡ run = Rattle.std.proofs.Math.Nat.mul-add-mod_self_right bits (2 ^ n) run ∙ mod-eq_of_lt small in
    ap (λ (j : ℕ). bits_of (count + n) ((bits * 2 ^ n + run) % 2 ^ j)) (sym e)
    ∙ (bits_of-mod (count + n) (32 - (count + n)) (bits * 2 ^ n + run)
    ∙ (bits_of-add count n (bits * 2 ^ n + run)
    ∙ ap₂ (λ (xs ys : List Bool). xs ++ ys) (ap (bits_of count) d) (sym (low_bits n (bits * 2 ^ n + run)) ∙ (ap (bits_of n) m ∙ is))))

pub pow_below : (m n : ℕ) → 2 ^ m < 2 ^ n → m < n
pow_below m n h = elim (nat_lt m n) as (λ b. nat_lt m n ≡ b → m < n) [
  | true ↦ λ e. grind (arith, nat_tests, e)
  | false ↦ λ e. (let le : n ≤ m = grind (arith, nat_tests, e) in absurd (omega (arith, pow_mono le, h)))
] refl

-- equal bits as a number
pub ones_run : (n run : ℕ) → n ≤ 32 → run ≡ 1 * 2 ^ n % 18446744073709551616 - 1 → (run < 2 ^ n) × (bits_of n run ≡ replicate n true)
ones_run n run few e =
    let p = pow_pos n in
    let s = one_shl n 64 (omega (arith, few)) in
    (omega (arith, e, s, p), all_set n run (omega (arith, e, s, p)))

pub zeros_run : (n run : ℕ) → run ≡ 0 → (run < 2 ^ n) × (bits_of n run ≡ replicate n false)
zeros_run n run e = let p = pow_pos n in (omega (arith, e, p), ap (bits_of n) e ∙ zeros n)

-- the same behind a list that a register holds
pub repeated : (count n bits run : ℕ) (value : Bool) (list : List Bool) → bits_of count bits ≡ list → length list + n ≤ 32 → bits < 4294967296 → (run < 2 ^ n) × (bits_of n run ≡ replicate n value)
    → bits_of (count + n) ((bits * 2 ^ n % 18446744073709551616 + run) % 4294967296) ≡ list ++ replicate n value
repeated count n bits run value list is few fits h =
    let l : length list ≡ count = ap length (sym is) ∙ length-bits_of count bits in
    let p : 2 ^ n ≤ 4294967296 = pow_mono {i = n} {j = 32} (omega (arith, few)) in
    let m : bits * 2 ^ n ≤ 4294967295 * 4294967296 = mul-le bits (2 ^ n) 4294967295 4294967296 (omega (arith, fits)) p in
    let e : bits * 2 ^ n % 18446744073709551616 ≡ bits * 2 ^ n = mod-eq_of_lt (omega (arith, m)) in
    ap (λ (k : ℕ). bits_of (count + n) ((k + run) % 4294967296)) e
    ∙ (pushed count n bits run value (omega (arith, few, l)) h.0 h.1 ∙ ap (λ (xs : List Bool). xs ++ replicate n value) is)
