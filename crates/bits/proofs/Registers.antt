-- Registers of 32 bits: one bit shifted in.
use Rattle.std.proofs.Common.{◌≡◌, ℕ, zero, suc, ◌+◌, ◌-◌, ◌*◌, ◌/◌, ◌%◌, ◌^◌, ◌<◌, Bool, ◌==◌, List, [], ◌∷◌, ◌++◌, drop, arith, refl, sym, ◌∙◌, ap, ap₂, bit_or, bit_and, mod-eq_of_lt}
use Rattle.std.proofs.lemmas.List.{drop-append-le}
use Rattle.std.proofs.Math.Pow.{pow_pos}
use Rattle.std.proofs.Math.Nat.{pow-suc}
use Rattle.std.specs.Int.Bits.{and_mask, or_shifted}
use Rattle.bits.specs.Bits.{bits_of, bit_value}
use Rattle.bits.proofs.Lengths.{length-bits_of}
use Rattle.bits.proofs.Numbers.{bit_value-lt, bits_of-push}

-- `(r << 1) | (t & 1)`, where r has 31 bits
pub shift_in : (r t : ℕ) → r < 2 ^ 31 → bit_or (r * 2 % 4294967296) (bit_and t 1) ≡ r * 2 + t % 2
shift_in r t h = ap₂ bit_or (mod-eq_of_lt (omega arith)) (and_mask t 1) ∙ or_shifted r 1 (t % 2) (omega arith)

-- `(r << 1) | u32::from(b)`, where the highest bit of r falls out
pub push_register : (r : ℕ) (b : Bool) → bit_or (r * 2 % 4294967296) (bit_value b) ≡ r % 2147483648 * 2 + bit_value b
push_register r b =
    let e : r * 2 % 4294967296 ≡ r % 2147483648 * 2 = omega arith in
    ap (λ (x : ℕ). bit_or x (bit_value b)) e ∙ or_shifted (r % 2147483648) 1 (bit_value b) (bit_value-lt b)

-- the bits above the k lowest don't count
pub bits_of-mod : (k j n : ℕ) → bits_of k (n % 2 ^ (k + j)) ≡ bits_of k n
unfolding bits_of
bits_of-mod zero j n = refl
bits_of-mod (suc k) j n =
    let e : 2 ^ (suc k + j) ≡ 2 ^ (k + j) * 2 = ap (λ (x : ℕ). 2 ^ x) (omega arith) ∙ pow-suc 2 (k + j) in
    let split = Rattle.std.proofs.Math.Arith.mod-mul n {m = 2 ^ (k + j)} {c = 2} (pow_pos (k + j)) (omega arith) in
    let whole : n % 2 ^ (suc k + j) ≡ n / 2 % 2 ^ (k + j) * 2 + n % 2 = ap (λ (x : ℕ). n % x) e ∙ split in
    let half : n % 2 ^ (suc k + j) / 2 ≡ n / 2 % 2 ^ (k + j) = omega arith in
    let low : n % 2 ^ (suc k + j) % 2 ≡ n % 2 = omega arith in
    rw (half, low) (ap (λ (xs : List Bool). xs ++ (n % 2 == 1) ∷ []) (bits_of-mod k j (n / 2)))

-- without the first of k + 1 bits, the others
pub drop-bits_of : (k n : ℕ) → drop 1 (bits_of (suc k) n) ≡ bits_of k n
unfolding bits_of
drop-bits_of zero n = refl
drop-bits_of (suc k) n =
    let l = length-bits_of (suc k) (n / 2) in
    drop-append-le 1 (bits_of (suc k) (n / 2)) ((n % 2 == 1) ∷ []) (omega arith)
    ∙ ap (λ (xs : List Bool). xs ++ (n % 2 == 1) ∷ []) (drop-bits_of k (n / 2))

-- a register that isn't full yet
pub push_short : (k r : ℕ) (b : Bool) → k < 32 → bits_of (suc k) (r % 2147483648 * 2 + bit_value b) ≡ bits_of k r ++ b ∷ []
push_short k r b h =
    let e : k + (31 - k) ≡ 31 = omega arith in
    bits_of-push k (r % 2147483648) b
    ∙ ap (λ (xs : List Bool). xs ++ b ∷ []) (ap (λ (x : ℕ). bits_of k (r % 2 ^ x)) (sym e) ∙ bits_of-mod k (31 - k) r)

-- a full register
pub push_full : (r : ℕ) (b : Bool) → bits_of 32 (r % 2147483648 * 2 + bit_value b) ≡ drop 1 (bits_of 32 r ++ b ∷ [])
push_full r b =
    let l = length-bits_of 32 r in
    push_short 31 r b (omega arith) ∙ ap (λ (xs : List Bool). xs ++ b ∷ []) (sym (drop-bits_of 31 r))
    ∙ sym (drop-append-le 1 (bits_of 32 r) (b ∷ []) (omega arith))
