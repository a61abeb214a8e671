-- The remainder is linear, and has ten bits.
use Rattle.std.proofs.Common.{◌≡◌, ℕ, zero, suc, ◌+◌, ◌-◌, ◌*◌, ◌/◌, ◌%◌, ◌^◌, ◌<◌, arith, refl, sym, ◌∙◌, ap, ap₂, inl, inr, bit_xor, lit<, zero-add}
use Rattle.std.specs.Int.Bits.{xor_block, xor_shr, xor_lt, xor_zero_r}
use Rattle.bits.proofs.Numbers.{half_below, below_two}
use Rattle.bits.proofs.Xors.{xor_half, xor_low, xor_double, xor_swap}
use Rattle.bch31.specs.Codeword.{generator}
use Rattle.bch31.specs.Division.{reduce, remainder}

-- the generator without its highest bit
abbrev pub low_generator : ℕ
low_generator = 0x369

-- the generator taken 0 or 1 times
times_generator : (p q : ℕ) → p < 2 → q < 2 → bit_xor p q * generator ≡ bit_xor (p * generator) (q * generator)
times_generator p q hp hq = elim (below_two p hp) [
  | inl p0 ↦ elim (below_two q hq) [ inl q0 ↦ rw (p0, q0) | inr q1 ↦ rw (p0, q1) ]
  | inr p1 ↦ elim (below_two q hq) [ inl q0 ↦ rw (p1, q0) | inr q1 ↦ rw (p1, q1) ]
]

-- the reduction is linear
pub reduce-xor : (x y : ℕ) → x < 2048 → y < 2048 → reduce (bit_xor x y) ≡ bit_xor (reduce x) (reduce y)
reduce-xor x y hx hy =
    let e : bit_xor x y / 1024 ≡ bit_xor (x / 1024) (y / 1024) = xor_shr x y 10 in
    ap (λ (q : ℕ). bit_xor (bit_xor x y) (q * generator)) e
    ∙ ap (bit_xor (bit_xor x y)) (times_generator (x / 1024) (y / 1024) (omega arith) (omega arith))
    ∙ xor_swap x y (x / 1024 * generator) (y / 1024 * generator)

-- a reduced number has ten bits
pub reduce-lt : (r : ℕ) → r < 2048 → reduce r < 1024
reduce-lt r h = elim (below_two (r / 1024) (omega arith)) [
  | inl z ↦
      let small : r < 1024 = omega arith in
      let e : reduce r ≡ r = ap (λ (q : ℕ). bit_xor r (q * generator)) z ∙ xor_zero_r r in
      rw e small
  | inr o ↦
      let w : r ≡ 1 * 1024 + (r - 1024) = omega arith in
      let block = xor_block 10 1 1 (r - 1024) low_generator (omega arith) (lit< tt) in
      let e : reduce r ≡ bit_xor (r - 1024) low_generator = ap (λ (q : ℕ). bit_xor r (q * generator)) o ∙ ap (λ (x : ℕ). bit_xor x generator) w ∙ block ∙ zero-add (bit_xor (r - 1024) low_generator) in
      let b : bit_xor (r - 1024) low_generator < 1024 = xor_lt 10 (r - 1024) low_generator (omega arith) (lit< tt) in
      rw e b
]

-- ten bits stay as they are
pub reduce-small : (r : ℕ) → r < 1024 → reduce r ≡ r
reduce-small r h =
    let z : r / 1024 ≡ 0 = omega arith in
    ap (λ (q : ℕ). bit_xor r (q * generator)) z ∙ xor_zero_r r

-- a remainder has ten bits
pub remainder-lt : (k x : ℕ) → remainder k x < 1024
unfolding remainder
remainder-lt zero x = lit< tt
remainder-lt (suc k) x =
    let ih = remainder-lt k (x / 2) in
    reduce-lt (remainder k (x / 2) * 2 + x % 2) (omega arith)

-- the remainder is linear
pub remainder-xor : (k a b : ℕ) → remainder k (bit_xor a b) ≡ bit_xor (remainder k a) (remainder k b)
unfolding remainder
remainder-xor zero a b = refl
remainder-xor (suc k) a b =
    let la = remainder-lt k (a / 2) in
    let lb = remainder-lt k (b / 2) in
    ap₂ (λ (u s : ℕ). reduce (u * 2 + s)) (ap (remainder k) (xor_half a b) ∙ remainder-xor k (a / 2) (b / 2)) (xor_low a b)
    ∙ ap reduce (sym (xor_double (remainder k (a / 2)) (remainder k (b / 2)) (a % 2) (b % 2) (omega arith) (omega arith)))
    ∙ reduce-xor (remainder k (a / 2) * 2 + a % 2) (remainder k (b / 2) * 2 + b % 2) (omega arith) (omega arith)

-- ten bits are their own remainder
pub remainder-small : (k x : ℕ) → x < 1024 → x < 2 ^ k → remainder k x ≡ x
unfolding remainder
remainder-small zero x s h = let z : x ≡ 0 = omega arith in sym z
remainder-small (suc k) x s h =
    let ih = remainder-small k (x / 2) (omega arith) (half_below k x h) in
    let back : x / 2 * 2 + x % 2 ≡ x = omega arith in
    ap (λ (u : ℕ). reduce (u * 2 + x % 2)) ih ∙ ap reduce back ∙ reduce-small x s
