-- The codeword of a front.
use Rattle.std.proofs.Common.{◌≡◌, ℕ, zero, suc, ◌+◌, ◌*◌, ◌/◌, ◌%◌, ◌^◌, ◌<◌, arith, sym, ◌∙◌, ap, ap₂, bit_xor, bit_or, bit_and, mod-eq_of_lt}
use Rattle.std.specs.Int.Bits.{xor_block, xor_shr, xor_self, xor_zero_l, xor_zero_r, or_shifted}
use Rattle.std.specs.Int.Count.{ones, ones_step}
use Rattle.bits.proofs.Distances.{ones-zero, ones-push}
use Rattle.bits.proofs.Numbers.{half_below}
use Rattle.bits.proofs.Registers.{shift_in}
use Rattle.bits.proofs.Xors.{same_from_xor}
use Rattle.bch31.specs.Codeword.{IsCodeword, front_of, check_of}
use Rattle.bch31.specs.Division.{remainder}
use Rattle.bch31.specs.Word.{ones_among, with_parity, word_of, OneWord}
use Rattle.bch31.proofs.Remainders.{remainder-lt, remainder-xor, remainder-small}
use Rattle.bch31.proofs.Multiples.{multiple_from_remainder, codeword_remainder}

-- the ones of a number of k bits are among its k lowest
pub ones_among-ones : (k n : ℕ) → n < 2 ^ k → ones_among k n ≡ ones n
unfolding ones_among
ones_among-ones zero n h = let z : n ≡ 0 = omega arith in rw z (sym ones-zero)
ones_among-ones (suc k) n h =
    let ih = ones_among-ones k (n / 2) (half_below k n h) in
    let s = ones_step n in
    omega arith

-- the first 31 bits of the codeword of d: d, and the check bits behind it
pub word_of-half : (d : ℕ) → word_of d / 2 ≡ d * 2 ^ 10 + remainder 31 (d * 2 ^ 10)
unfolding word_of
word_of-half d = let s = d * 2 ^ 10 + remainder 31 (d * 2 ^ 10) in let e : (s * 2 + ones_among 31 s % 2) / 2 ≡ s = omega arith in e

-- the codeword of 21 bits has 32 bits
pub word_of-lt : (d : ℕ) → d < 2 ^ 21 → word_of d < 2 ^ 32
word_of-lt d h = let e = word_of-half d in let r = remainder-lt 31 (d * 2 ^ 10) in omega arith

-- its first 21 bits are d
pub front_of-word_of : (d : ℕ) → front_of (word_of d) ≡ d
front_of-word_of d = let e = word_of-half d in let r = remainder-lt 31 (d * 2 ^ 10) in omega arith

-- its check bits are the remainder of d with ten zeros behind it
pub check_of-word_of : (d : ℕ) → check_of (word_of d) ≡ remainder 31 (d * 2 ^ 10)
check_of-word_of d = let e = word_of-half d in let r = remainder-lt 31 (d * 2 ^ 10) in omega arith

-- different fronts have different codewords
pub word_of-injective : (d e : ℕ) → word_of d ≡ word_of e → d ≡ e
word_of-injective d e h = sym (front_of-word_of d) ∙ ap front_of h ∙ front_of-word_of e

-- ten zeros, and ten bits in their place
filled : (d r : ℕ) → r < 2 ^ 10 → bit_xor (d * 2 ^ 10) r ≡ d * 2 ^ 10 + r
filled d r h =
    let a : d * 2 ^ 10 ≡ d * 2 ^ 10 + 0 = omega arith in
    let b : r ≡ 0 * 2 ^ 10 + r = omega arith in
    ap₂ bit_xor a b ∙ xor_block 10 d 0 0 r (omega arith) h ∙ ap₂ (λ (x y : ℕ). x * 2 ^ 10 + y) (xor_zero_r d) (xor_zero_l r)

-- its first 31 bits have remainder 0
word_of-remainder : (d : ℕ) → d < 2 ^ 21 → remainder 31 (word_of d / 2) ≡ 0
word_of-remainder d h =
    let r : ℕ = remainder 31 (d * 2 ^ 10) in
    let small : r < 1024 = remainder-lt 31 (d * 2 ^ 10) in
    ap (remainder 31) (word_of-half d ∙ sym (filled d r small))
    ∙ remainder-xor 31 (d * 2 ^ 10) r
    ∙ ap (bit_xor r) (remainder-small 31 r small (omega arith))
    ∙ xor_self r

-- the number of its ones is even
word_of-even : (d : ℕ) → d < 2 ^ 21 → ones (word_of d) % 2 ≡ 0
unfolding word_of
word_of-even d h =
    let s : ℕ = d * 2 ^ 10 + remainder 31 (d * 2 ^ 10) in
    let r = remainder-lt 31 (d * 2 ^ 10) in
    let among = ones_among-ones 31 s (omega arith) in
    let e = ones-push s (ones_among 31 s % 2) (omega arith) in
    omega arith

-- the codeword of d is a codeword
pub word_of-codeword : (d : ℕ) → d < 2 ^ 21 → IsCodeword (word_of d)
word_of-codeword d h =
    let l = word_of-lt d h in
    let m = multiple_from_remainder (word_of d / 2) (omega arith) (word_of-remainder d h) in
    record { shifts = m.0; shifts_len = m.1; multiple = m.2; even = word_of-even d h }

-- ten bits with remainder 0 are zeros
no_rest : (x : ℕ) → x < 2 ^ 10 → remainder 31 x ≡ 0 → x ≡ 0
no_rest x h z = sym (remainder-small 31 x h (omega arith)) ∙ z

-- codewords with one front have the same first 31 bits
same_halves : {v w : ℕ} → IsCodeword v → IsCodeword w → front_of v ≡ front_of w → v / 2 ≡ w / 2
same_halves {v} {w} cv cw e =
    let high : v / 2 / 2 ^ 10 ≡ w / 2 / 2 ^ 10 = omega (arith, e) in
    let top : bit_xor (v / 2) (w / 2) / 2 ^ 10 ≡ 0 =
    xor_shr (v / 2) (w / 2) 10 ∙ ap (λ (x : ℕ). bit_xor x (w / 2 / 2 ^ 10)) high ∙ xor_self (w / 2 / 2 ^ 10) in
    let small : bit_xor (v / 2) (w / 2) < 2 ^ 10 = omega (arith, top) in
    let r : remainder 31 (bit_xor (v / 2) (w / 2)) ≡ 0 =
    remainder-xor 31 (v / 2) (w / 2) ∙ ap₂ bit_xor (codeword_remainder cv) (codeword_remainder cw) in
    same_from_xor (v / 2) (w / 2) (no_rest (bit_xor (v / 2) (w / 2)) small r)

-- codewords with one front are the same
pub same_codewords : {v w : ℕ} → IsCodeword v → IsCodeword w → front_of v ≡ front_of w → v ≡ w
same_codewords {v} {w} cv cw e =
    let h = same_halves cv cw e in
    let same = ap ones h in
    let sv = ones_step v in
    let sw = ones_step w in
    omega (arith, cv.even, cw.even)

-- each front has exactly one codeword
pub one_word : OneWord
one_word d h = record {
  codeword = word_of-codeword d h;
  front = front_of-word_of d;
  only = λ w c e. same_codewords c (word_of-codeword d h) (e ∙ sym (front_of-word_of d));
}

-- 31 bits and their parity bit
pub with_parity-ones : (s : ℕ) → s < 2 ^ 31 → with_parity s ≡ s * 2 + ones s % 2
with_parity-ones s h = ap (λ (n : ℕ). s * 2 + n % 2) (ones_among-ones 31 s h)

-- `(d << 10) | checks`
pub check_bits_behind : (d checks : ℕ) → d < 2 ^ 21 → checks < 2 ^ 10 → bit_or (d * 1024 % 4294967296) checks ≡ d * 2 ^ 10 + checks
check_bits_behind d checks h l = ap (λ (x : ℕ). bit_or x checks) (mod-eq_of_lt (omega arith)) ∙ or_shifted d 10 checks l

-- `(s << 1) | (s.count_ones() & 1)`
pub parity_behind : (s : ℕ) → s < 2 ^ 31 → bit_or (s * 2 % 4294967296) (bit_and (ones s) 1) ≡ with_parity s
parity_behind s h = shift_in s (ones s) h ∙ sym (with_parity-ones s h)

-- a front, its check bits and the parity bit, put together
pub word_of-parts : (d checks : ℕ) → d < 2 ^ 21 → checks ≡ check_of (word_of d) → with_parity (d * 2 ^ 10 + checks) ≡ word_of d
unfolding word_of
word_of-parts d checks h e = ap (λ (r : ℕ). with_parity (d * 2 ^ 10 + r)) (e ∙ check_of-word_of d)
