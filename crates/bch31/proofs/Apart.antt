-- How far codewords are apart.
use Rattle.std.proofs.Common.{◌≡◌, ℕ, zero, suc, ◌+◌, ◌*◌, ◌/◌, ◌%◌, ◌^◌, ◌<◌, ◌≤◌, arith, sym, ◌∙◌, ap, ap₂, inl, inr, subst, bit_xor, lit<}
use Rattle.std.proofs.lemmas.Bool.{cases_lt}
use Rattle.std.proofs.Math.Pow.{pow_pos}
use Rattle.std.proofs.Math.Nat.{pow-suc}
use Rattle.std.specs.Int.Bits.{xor_lt, xor_assoc, xor_self, xor_zero_l, xor_zero_r}
use Rattle.std.specs.Int.Count.{ones, ones_step}
use Rattle.bits.proofs.Numbers.{half_below, bit_cases}
use Rattle.bits.proofs.Xors.{xor_half, xor_double, same_from_xor}
use Rattle.bits.proofs.Distances.{dist-bits_of, ones-zero, ones-push, ones-xor}
use Rattle.bch31.specs.Codeword.{IsCodeword}
use Rattle.bch31.specs.Distance.{distance_of, CodewordsAreSixApart}
use Rattle.bch31.specs.Division.{remainder}
use Rattle.bch31.proofs.Remainders.{remainder-xor}
use Rattle.bch31.proofs.Multiples.{codeword_half-lt, codeword_remainder}
use Rattle.bch31.proofs.Entries.{light_same}

-- the distance of two words is the number of ones of their xor
pub distance_of-ones : (a b : ℕ) → a < 2 ^ 32 → b < 2 ^ 32 → distance_of a b ≡ ones (bit_xor a b)
distance_of-ones a b ha hb = dist-bits_of 32 a b ha hb

-- a part of k bits with at most m ones, and at most n ones beside it
record Split (k m n e : ℕ) : Type 0 where
  pub part : ℕ
  pub part-lt : part < 2 ^ k
  pub part_ones : ones part ≤ m
  pub rest_ones : ones (bit_xor e part) ≤ n

-- the parts with one more bit behind them, of which the first part takes all
split_push : (k m n e r : ℕ) → r < 2 → e % 2 ≡ r → (d : Split k m n (e / 2)) → Split (suc k) (m + r) n e
split_push k m n e r h last d = record {
  part = d.part * 2 + r;
  part-lt = let p : 2 ^ suc k ≡ 2 ^ k * 2 = pow-suc 2 k in let a = d.part-lt in omega arith;
  part_ones = let a = d.part_ones in let b = ones-push d.part r h in omega arith;
  rest_ones =
      let whole : e ≡ e / 2 * 2 + r = omega arith in
      let x : bit_xor e (d.part * 2 + r) ≡ bit_xor (e / 2) d.part * 2 + bit_xor r r =
      ap (λ (y : ℕ). bit_xor y (d.part * 2 + r)) whole ∙ xor_double (e / 2) d.part r r h h in
      let z : bit_xor (e / 2) d.part * 2 + bit_xor r r ≡ bit_xor (e / 2) d.part * 2 + 0 = ap (λ (y : ℕ). bit_xor (e / 2) d.part * 2 + y) (xor_self r) in
      let a = d.rest_ones in
      let b = ones-push (bit_xor (e / 2) d.part) 0 (lit< tt) in
      rw (x ∙ z) (omega arith);
}

-- a number with at most m + n ones is the xor of two with at most m and n ones
split : (k m n e : ℕ) → e < 2 ^ k → ones e ≤ m + n → Split k m n e
split zero m n e h o = record {
  part = 0;
  part-lt = lit< tt;
  part_ones = let z = ones-zero in omega arith;
  rest_ones = let z : e ≡ 0 = omega arith in rw z (let z = ones-zero in omega arith);
}
split (suc k) zero n e h o = record {
  part = 0;
  part-lt = pow_pos (suc k);
  part_ones = let z = ones-zero in omega arith;
  rest_ones = rw (xor_zero_r e) (omega arith);
}
split (suc k) (suc m) n e h o =
    let s = ones_step e in
    let half = half_below k e h in
    elim (bit_cases e) [
      | inl even ↦
          let few : ones (e / 2) ≤ suc m + n = omega arith in
          let same : suc m + 0 ≡ suc m = omega arith in
          subst (λ (x : ℕ). Split (suc k) x n e) same (split_push k (suc m) n e 0 (lit< tt) even (split k (suc m) n (e / 2) half few))
      | inr odd ↦
          let few : ones (e / 2) ≤ m + n = omega arith in
          let same : m + 1 ≡ suc m = omega arith in
          subst (λ (x : ℕ). Split (suc k) x n e) same (split_push k m n e 1 (lit< tt) odd (split k m n (e / 2) half few))
    ]

-- a pattern of 31 bits with at most four ones and remainder 0 is empty
few_ones : (e : ℕ) → e < 2 ^ 31 → ones e ≤ 4 → remainder 31 e ≡ 0 → e ≡ 0
few_ones e h o z =
    let d = split 31 2 2 e h o in
    let other : bit_xor e d.part < 2 ^ 31 = xor_lt 31 e d.part h d.part-lt in
    let r : remainder 31 (bit_xor e d.part) ≡ remainder 31 d.part = remainder-xor 31 e d.part ∙ ap (λ (x : ℕ). bit_xor x (remainder 31 d.part)) z ∙ xor_zero_l (remainder 31 d.part) in
    let same : bit_xor e d.part ≡ d.part = light_same (bit_xor e d.part) d.part other d.part-lt d.rest_ones d.part_ones r in
    sym (xor_zero_r e) ∙ ap (bit_xor e) (sym (xor_self d.part)) ∙ sym (xor_assoc e d.part d.part) ∙ ap (λ (x : ℕ). bit_xor x d.part) same ∙ xor_self d.part

-- a codeword has 32 bits
pub codeword-lt : {v : ℕ} → IsCodeword v → v < 2 ^ 32
codeword-lt {v} c = let h = codeword_half-lt c in omega arith

-- codewords that differ in at most five places are the same
near_same : (a b : ℕ) → IsCodeword a → IsCodeword b → ones (bit_xor a b) < 6 → a ≡ b
near_same a b ca cb near =
    let la = codeword-lt ca in
    let lb = codeword-lt cb in
    let p = ones-xor 32 a b la lb in
    let ea = ca.even in
    let eb = cb.even in
    let s = ones_step (bit_xor a b) in
    let four : ones (bit_xor a b) ≤ 4 = omega (arith, p.1) in
    let half-lt : bit_xor a b / 2 < 2 ^ 31 = let l = xor_lt 32 a b la lb in omega arith in
    let r : remainder 31 (bit_xor a b / 2) ≡ 0 =
    ap (remainder 31) (xor_half a b) ∙ remainder-xor 31 (a / 2) (b / 2) ∙ ap₂ bit_xor (codeword_remainder ca) (codeword_remainder cb) in
    let zero_half : bit_xor a b / 2 ≡ 0 = few_ones (bit_xor a b / 2) half-lt (omega arith) r in
    let o : ones (bit_xor a b / 2) ≡ 0 = ap ones zero_half ∙ ones-zero in
    let nothing : bit_xor a b ≡ 0 = omega (arith, p.1) in
    same_from_xor a b nothing

-- two different codewords differ in at least six places
pub six_apart : CodewordsAreSixApart
six_apart a b ca cb ne = elim (cases_lt (ones (bit_xor a b)) 6) [
  | inr far ↦ rw (distance_of-ones a b (codeword-lt ca) (codeword-lt cb)) far
  | inl near ↦ absurd (ne (near_same a b ca cb near))
]
