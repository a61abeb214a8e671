-- Samples that are gathered into bytes.
use Rattle.std.proofs.Common.{◌≡◌, ℕ, ◌+◌, ◌*◌, ◌/◌, ◌%◌, ◌^◌, ◌<◌, ◌≤◌, Bool, List, [], ◌∷◌, ◌++◌, IsTrue, length, take, append-nil, append_assoc, length-append, refl, sym, ◌∙◌, ap, ap₂, subst, arith}
use Rattle.std.proofs.Math.Nat.{div-eq_of_lt, mul-add-div_right, mul-add-mod_self_right, mod-eq_of_lt}
use Rattle.std.proofs.Math.Pow.{pow_mono, pow_pos}
use Rattle.std.proofs.Math.ListN.{set}
use Rattle.std.proofs.lemmas.Grind.{take-set_at}
use Rattle.std.proofs.lemmas.List.{length-set}
use Rattle.std.specs.Int.{to_be_bytes, w32}
use Rattle.std.specs.Prelude.{slice_index_or}
use Rattle.std.proofs.lemmas.Nat.{mul-le, pow-add}
use Rattle.bits.specs.Bits.{bits_of, bytes_bits}
use Rattle.bits.proofs.Bytes.{bits_of-add, bytes_bits-append, bytes_bits-word}
use Rattle.bits.proofs.Lengths.{length-bits_of}
use Rattle.wires.proofs.Pieces.{low_bits}
use Rattle.wires.proofs.Stacked.{are_bytes-append, are_bytes-cons, are_bytes-word}
use Rattle.wires.specs.Stacked.{are_bytes}

-- n bits behind others, in a number
joined : (count n byte number : ℕ) → number < 2 ^ n → bits_of (count + n) (byte * 2 ^ n + number) ≡ bits_of count byte ++ bits_of n number
joined count n byte number small =
    let p = pow_pos n in
    let d : (byte * 2 ^ n + number) / 2 ^ n ≡ byte = mul-add-div_right p byte number ∙ (ap (λ (k : ℕ). byte + k) (div-eq_of_lt small) ∙ omega arith) in
    let m : (byte * 2 ^ n + number) % 2 ^ n ≡ number = mul-add-mod_self_right byte (2 ^ n) number ∙ mod-eq_of_lt small in
    bits_of-add count n (byte * 2 ^ n + number)
    ∙ ap₂ (λ (xs ys : List Bool). xs ++ ys) (ap (bits_of count) d) (sym (low_bits n (byte * 2 ^ n + number)) ∙ ap (bits_of n) m)

joined-lt : (count n byte number : ℕ) → byte < 2 ^ count → number < 2 ^ n → byte * 2 ^ n + number < 2 ^ (count + n)
joined-lt count n byte number small few =
    let h : (byte + 1) * 2 ^ n ≤ 2 ^ count * 2 ^ n = mul-le (byte + 1) (2 ^ n) (2 ^ count) (2 ^ n) (omega (arith, small)) (omega arith) in
    let e : (byte + 1) * 2 ^ n ≡ byte * 2 ^ n + 2 ^ n = omega arith in
    omega (arith, h, e, few, pow-add 2 count n)

-- The first count samples of a list are the bits of a number, and these come behind them.
pub record GatheredSo (all left : List Bool) (count byte : ℕ) : Type 0 where
  pub takes : all ≡ bits_of count byte ++ left
  pub small : byte < 2 ^ count

-- the next few samples come behind them
pub gathers : (all left later piece : List Bool) (count n m byte number : ℕ) → GatheredSo all left count byte → left ≡ piece ++ later → n ≡ length piece → m ≡ length piece → bits_of (length piece) number ≡ piece → number < 2 ^ length piece → count + n ≤ 32
    → GatheredSo all later (count + n) (byte * 2 ^ m % 18446744073709551616 + number)
gathers all left later piece count n m byte number h takes long as_long is small few =
    let same : m ≡ n = as_long ∙ sym long in
    let lt : number < 2 ^ n = subst (λ (k : ℕ). number < 2 ^ k) (sym long) small in
    let below = joined-lt count n byte number h.small lt in
    let most : 2 ^ (count + n) ≤ 2 ^ 32 = pow_mono few in
    let e : byte * 2 ^ n % 18446744073709551616 ≡ byte * 2 ^ n = mod-eq_of_lt (omega (arith, below, most)) in
    let bits : bits_of n number ≡ piece = ap (λ (k : ℕ). bits_of k number) long ∙ is in
    rw (same, e) record {
      takes =
          h.takes
          ∙ (ap (λ (xs : List Bool). bits_of count byte ++ xs) takes
          ∙ (sym (append_assoc (bits_of count byte) piece later)
          ∙ ap (λ (xs : List Bool). xs ++ later) (ap (λ (xs : List Bool). bits_of count byte ++ xs) (sym bits) ∙ sym (joined count n byte number lt))));
      small = below;
    }

-- some come, where fewer were gathered than asked for
pub some_come : (all left piece : List Bool) (count byte asked : ℕ) → GatheredSo all left count byte → asked ≤ length all → count < asked → (piece ≡ [] → left ≡ []) → 0 < length piece
some_come all left [] count byte asked h many few end =
    absurd (omega (arith, ap length h.takes, length-append (bits_of count byte) left, length-bits_of count byte, ap length (end refl), many, few))
some_come all left (b ∷ piece) count byte asked h many few end = omega arith

-- a byte more
pub one_more : (all left later : List Bool) (xs : List ℕ) (at byte : ℕ) → at < length xs → all ≡ bytes_bits (take at xs) ++ left → left ≡ bits_of 8 byte ++ later → all ≡ bytes_bits (take (at + 1) (set xs at byte)) ++ later
one_more all left later xs at byte within h takes =
    let e : bytes_bits (take (at + 1) (set xs at byte)) ≡ bytes_bits (take at xs) ++ bits_of 8 byte =
    ap bytes_bits (take-set_at xs at (at + 1) byte refl within) ∙ (bytes_bits-append (take at xs) (byte ∷ []) ∙ ap (λ (bs : List Bool). bytes_bits (take at xs) ++ bs) (append-nil (bits_of 8 byte))) in
    h ∙ (ap (λ (bs : List Bool). bytes_bits (take at xs) ++ bs) takes ∙ (sym (append_assoc (bytes_bits (take at xs)) (bits_of 8 byte) later) ∙ ap (λ (bs : List Bool). bs ++ later) (sym e)))

pub one_more-bytes : (xs : List ℕ) (at byte : ℕ) → at < length xs → byte < 256 → IsTrue (are_bytes (take at xs)) → IsTrue (are_bytes (take (at + 1) (set xs at byte)))
one_more-bytes xs at byte within lt h =
    subst (λ (ys : List ℕ). IsTrue (are_bytes ys)) (sym (take-set_at xs at (at + 1) byte refl within))
    (are_bytes-append (take at xs) (byte ∷ []) (are_bytes-cons byte [] lt refl) ∙ h)

four_of : (bs : List ℕ) → length bs ≡ 4 → bs ≡ slice_index_or bs 0 0 ∷ slice_index_or bs 1 0 ∷ slice_index_or bs 2 0 ∷ slice_index_or bs 3 0 ∷ []
four_of [] h = cc
four_of (a ∷ []) h = cc
four_of (a ∷ b ∷ []) h = cc
four_of (a ∷ b ∷ c ∷ []) h = cc
four_of (a ∷ b ∷ c ∷ d ∷ []) h = refl
four_of (a ∷ b ∷ c ∷ d ∷ e ∷ bs) h = absurd (omega (arith, h))

-- a list with four bytes stored from a place on
abbrev pub with_four : List ℕ → ℕ → List ℕ → List ℕ
with_four xs at bs = set (set (set (set xs at (slice_index_or bs 0 0)) (at + 1) (slice_index_or bs 1 0)) (at + 2) (slice_index_or bs 2 0)) (at + 3) (slice_index_or bs 3 0)

take-with_four : (xs : List ℕ) (at : ℕ) (bs : List ℕ) → length bs ≡ 4 → at + 4 ≤ length xs → take (at + 4) (with_four xs at bs) ≡ take at xs ++ bs
take-with_four xs at bs long within =
    let b0 = slice_index_or bs 0 0 in
    let b1 = slice_index_or bs 1 0 in
    let b2 = slice_index_or bs 2 0 in
    let b3 = slice_index_or bs 3 0 in
    let x1 : List ℕ = set xs at b0 in
    let x2 : List ℕ = set x1 (at + 1) b1 in
    let x3 : List ℕ = set x2 (at + 2) b2 in
    let l1 = length-set xs at b0 in
    let l2 = length-set x1 (at + 1) b1 in
    let l3 = length-set x2 (at + 2) b2 in
    let e1 : take (at + 1) x1 ≡ take at xs ++ b0 ∷ [] = take-set_at xs at (at + 1) b0 refl (omega (arith, within)) in
    let e2 : take (at + 2) x2 ≡ take (at + 1) x1 ++ b1 ∷ [] = take-set_at x1 (at + 1) (at + 2) b1 (omega arith) (omega (arith, within, l1)) in
    let e3 : take (at + 3) x3 ≡ take (at + 2) x2 ++ b2 ∷ [] = take-set_at x2 (at + 2) (at + 3) b2 (omega arith) (omega (arith, within, l1, l2)) in
    let e4 : take (at + 4) (set x3 (at + 3) b3) ≡ take (at + 3) x3 ++ b3 ∷ [] = take-set_at x3 (at + 3) (at + 4) b3 (omega arith) (omega (arith, within, l1, l2, l3)) in
    e4 ∙ (ap (λ (l : List ℕ). l ++ b3 ∷ []) (e3 ∙ ap (λ (l : List ℕ). l ++ b2 ∷ []) (e2 ∙ ap (λ (l : List ℕ). l ++ b1 ∷ []) e1))
    ∙ (joins (take at xs) b0 b1 b2 b3 ∙ ap (λ (l : List ℕ). take at xs ++ l) (sym (four_of bs long))))
  where
    joins : (l : List ℕ) (a b c d : ℕ) → (((l ++ a ∷ []) ++ b ∷ []) ++ c ∷ []) ++ d ∷ [] ≡ l ++ a ∷ b ∷ c ∷ d ∷ []
    joins l a b c d = simp append_assoc

-- four bytes more
pub four_more : (left later : List Bool) (xs : List ℕ) (at word : ℕ) (bs : List ℕ) → at + 4 ≤ length xs → bs ≡ to_be_bytes w32 word → left ≡ bits_of 32 word ++ later
    → bytes_bits (take at xs) ++ left ≡ bytes_bits (take (at + 4) (with_four xs at bs)) ++ later
four_more left later xs at word bs within is takes =
    let e : bytes_bits (take (at + 4) (with_four xs at bs)) ≡ bytes_bits (take at xs) ++ bits_of 32 word =
    ap bytes_bits (take-with_four xs at bs (ap length is) within) ∙ (bytes_bits-append (take at xs) bs ∙ ap (λ (l : List Bool). bytes_bits (take at xs) ++ l) (ap bytes_bits is ∙ bytes_bits-word word)) in
    ap (λ (l : List Bool). bytes_bits (take at xs) ++ l) takes ∙ (sym (append_assoc (bytes_bits (take at xs)) (bits_of 32 word) later) ∙ ap (λ (l : List Bool). l ++ later) (sym e))

pub four_more-bytes : (xs : List ℕ) (at word : ℕ) (bs : List ℕ) → at + 4 ≤ length xs → bs ≡ to_be_bytes w32 word → IsTrue (are_bytes (take at xs)) → IsTrue (are_bytes (take (at + 4) (with_four xs at bs)))
four_more-bytes xs at word bs within is h =
    subst (λ (l : List ℕ). IsTrue (are_bytes l)) (sym (take-with_four xs at bs (ap length is) within)) (are_bytes-append (take at xs) bs (ap are_bytes is ∙ are_bytes-word word) ∙ h)
