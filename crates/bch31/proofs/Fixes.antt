-- What the correction gives.
use Rattle.std.proofs.Common.{◌≡◌, ℕ, ◌*◌, ◌/◌, ◌%◌, ◌^◌, ◌<◌, ◌≤◌, ◌↔◌, arith, refl, sym, ◌∙◌, ap, inl, inr, bit_xor, bit_or, bit_and, slice_index, Bool, true, false, Option, Some, None, IsNone}
use Rattle.std.proofs.lemmas.Bool.{le-leb, lt-leb, cases_lt}
use Rattle.std.specs.Int.Bits.{xor_lt, xor_self, xor_zero_r}
use Rattle.std.specs.Int.Count.{ones, ones_step, ones-ones}
use Rattle.bits.proofs.Xors.{xor_half, xor_cancel}
use Rattle.bits.proofs.Distances.{ones-push}
use Rattle.bch31.specs.declared.patterns.TheConstants.{PATTERNS}
use Rattle.bch31.specs.Codeword.{IsCodeword}
use Rattle.bch31.specs.Distance.{distance_of}
use Rattle.bch31.specs.Division.{remainder}
use Rattle.bch31.specs.Fix.{IsFix, HasNoFix, repaired, some_if, fix_of, FixOfIsFix}
use Rattle.bch31.specs.Word.{with_parity}
use Rattle.bch31.proofs.Remainders.{remainder-lt, remainder-xor}
use Rattle.bch31.proofs.Multiples.{multiple_from_remainder, codeword_remainder}
use Rattle.bch31.proofs.Fronts.{with_parity-ones, parity_behind}
use Rattle.bch31.proofs.Entries.{pattern_found, pattern_sound, pattern-lt}
use Rattle.bch31.proofs.Apart.{distance_of-ones, codeword-lt}

-- 32 bits without the parity bit
pub with_parity-half : (s : ℕ) → with_parity s / 2 ≡ s
with_parity-half s = omega arith

-- the number of ones is even
pub with_parity-even : (s : ℕ) → s < 2 ^ 31 → ones (with_parity s) % 2 ≡ 0
with_parity-even s h = let e = ones-push s (ones s % 2) (omega arith) in let p = ap ones (with_parity-ones s h) in omega arith

-- the bits of the word without a pattern have 31 bits
pub repaired-lt : (w : ℕ) → w < 2 ^ 32 → repaired w < 2 ^ 31
unfolding repaired
repaired-lt w h = xor_lt 31 (w / 2) (slice_index PATTERNS (remainder 31 (w / 2))) (omega arith) (pattern-lt (remainder 31 (w / 2)) (remainder-lt 31 (w / 2)))

-- the repaired word has 32 bits
pub repaired_word-lt : (w : ℕ) → w < 2 ^ 32 → with_parity (repaired w) < 2 ^ 32
repaired_word-lt w h = let l = repaired-lt w h in omega arith

-- a word is its first 31 bits and, where the number of its ones is even, their parity bit
even_word : (v : ℕ) → v < 2 ^ 32 → ones v % 2 ≡ 0 → with_parity (v / 2) ≡ v
even_word v h even =
    let s = ones_step v in
    let p = with_parity-ones (v / 2) (omega arith) in
    omega arith

-- the pattern of the word is that of its difference to a codeword near it
pub near_found : (w v : ℕ) → w < 2 ^ 32 → IsFix w v → v ≡ with_parity (repaired w)
unfolding repaired
near_found w v h f =
    let c = f.codeword in
    let lv = codeword-lt c in
    let d = distance_of-ones w v h lv in
    let s = ones_step (bit_xor w v) in
    let n = f.near in
    let x = xor_half w v in
    let few : ones (bit_xor (w / 2) (v / 2)) ≤ 2 = rw (← x) (omega arith) in
    let wide : bit_xor (w / 2) (v / 2) < 2 ^ 31 = xor_lt 31 (w / 2) (v / 2) (omega arith) (omega arith) in
    let r : remainder 31 (bit_xor (w / 2) (v / 2)) ≡ remainder 31 (w / 2) =
    remainder-xor 31 (w / 2) (v / 2) ∙ ap (bit_xor (remainder 31 (w / 2))) (codeword_remainder c) ∙ xor_zero_r (remainder 31 (w / 2)) in
    let found : slice_index PATTERNS (remainder 31 (w / 2)) ≡ bit_xor (w / 2) (v / 2) =
    ap (slice_index PATTERNS) (sym r) ∙ pattern_found (bit_xor (w / 2) (v / 2)) wide few in
    let half : bit_xor (w / 2) (slice_index PATTERNS (remainder 31 (w / 2))) ≡ v / 2 = ap (bit_xor (w / 2)) found ∙ xor_cancel (w / 2) (v / 2) in
    sym (even_word v lv c.even) ∙ ap with_parity (sym half)

-- 31 ones are many
many_ones : ones 0x7FFFFFFF ≡ 31
many_ones = ones-ones 31

-- a word with remainder 0 and an even number of ones is a codeword
pub codeword_from : (w : ℕ) → w < 2 ^ 32 → remainder 31 (w / 2) ≡ 0 → ones w % 2 ≡ 0 → IsCodeword w
codeword_from w h r even =
    let m = multiple_from_remainder (w / 2) (omega arith) r in
    record { shifts = m.0; shifts_len = m.1; multiple = m.2; even = even }

-- the repaired word is a codeword where it is within two bits
near_is_codeword : (w : ℕ) → w < 2 ^ 32 → ones (bit_xor w (with_parity (repaired w))) ≤ 2 → IsCodeword (with_parity (repaired w))
unfolding repaired
near_is_codeword w h few =
    let i = remainder 31 (w / 2) in
    let e = slice_index PATTERNS i in
    let v = with_parity (repaired w) in
    let s = ones_step (bit_xor w v) in
    let half : bit_xor w v / 2 ≡ e = xor_half w v ∙ ap (bit_xor (w / 2)) (with_parity-half (repaired w)) ∙ xor_cancel (w / 2) e in
    let light : ones e ≤ 2 = rw (← half) (omega arith) in
    elim (pattern_sound i (remainder-lt 31 (w / 2))) [
      | inl none ↦ absurd (let o : ones e ≡ 31 = ap ones none ∙ many_ones in omega arith)
      | inr some ↦
          let r : remainder 31 (repaired w) ≡ 0 = remainder-xor 31 (w / 2) e ∙ ap (bit_xor i) some ∙ xor_self i in
          codeword_from v (repaired_word-lt w h) (ap (remainder 31) (with_parity-half (repaired w)) ∙ r) (with_parity-even (repaired w) (repaired-lt w h))
    ]

-- where the repaired word is within two bits it is the fix
fix_from_near : (w v : ℕ) → w < 2 ^ 32 → v ≡ with_parity (repaired w) → distance_of w v ≤ 2 → IsFix w v
fix_from_near w v h is near =
    let l = repaired_word-lt w h in
    let d = distance_of-ones w (with_parity (repaired w)) h l in
    let near2 : distance_of w (with_parity (repaired w)) ≤ 2 = rw (← is) near in
    record { codeword = rw is (near_is_codeword w h (rw (← d) near2)); near = near }

-- `fix_of` where the repaired word is within two bits
fix_of-near : (w : ℕ) → distance_of w (with_parity (repaired w)) ≤ 2 → fix_of w ≡ Some (with_parity (repaired w))
unfolding fix_of
fix_of-near w h = ap (λ (b : Bool). some_if b (with_parity (repaired w))) (le-leb (distance_of w (with_parity (repaired w))) 2 h)

-- `fix_of` where it isn't
fix_of-far : (w : ℕ) → 2 < distance_of w (with_parity (repaired w)) → fix_of w ≡ None
unfolding fix_of
fix_of-far w h = ap (λ (b : Bool). some_if b (with_parity (repaired w))) (lt-leb (distance_of w (with_parity (repaired w))) 2 h)

-- a codeword within two bits is answered
pub fix_of-some : (w v : ℕ) → w < 2 ^ 32 → IsFix w v → fix_of w ≡ Some v
fix_of-some w v h f =
    let same = near_found w v h f in
    let near : distance_of w (with_parity (repaired w)) ≤ 2 = rw (← same) f.near in
    fix_of-near w near ∙ ap (λ (x : ℕ). Some x) (sym same)

-- what is answered is a codeword within two bits
pub fix_of-is : (w v : ℕ) → w < 2 ^ 32 → fix_of w ≡ Some v → IsFix w v
fix_of-is w v h e = elim (cases_lt 2 (distance_of w (with_parity (repaired w)))) [
  | inl far ↦ let n = fix_of-far w far in cc
  | inr near ↦
      let n = fix_of-near w near in
      let same : v ≡ with_parity (repaired w) = cc in
      fix_from_near w v h same (rw same near)
]

-- `fix_of` is the relation
pub fixes : FixOfIsFix
fixes w v h = (fix_of-is w v h, fix_of-some w v h)

-- an answer that is `fix_of`, by its codeword
pub answer_some : (w : ℕ) (answer : Option ℕ) → w < 2 ^ 32 → answer ≡ fix_of w → (v : ℕ) → (answer ≡ Some v) ↔ IsFix w v
answer_some w answer h is v = rw is (fixes w v h)

-- an answer that is `fix_of`, where it is none
pub answer_none : (w : ℕ) (answer : Option ℕ) → w < 2 ^ 32 → answer ≡ fix_of w → IsNone answer ↔ HasNoFix w
answer_none w None h is = (λ n v f. let s = fix_of-some w v h f in cc, λ n. refl)
answer_none w (Some v) h is = (λ n. let e : true ≡ false = n in cc, λ n. absurd (n v (fix_of-is w v h (sym is))))

-- bits 1 to 31, repaired
repaired_is : (w e : ℕ) → e ≡ slice_index PATTERNS (remainder 31 (w / 2)) → bit_xor (w / 2) e ≡ repaired w
unfolding repaired
repaired_is w e is = ap (bit_xor (w / 2)) is

-- `(sent << 1) | (sent.count_ones() & 1)`
pub repaired_word : (w e : ℕ) → w < 2 ^ 32 → e ≡ slice_index PATTERNS (remainder 31 (w / 2))
    → bit_or (bit_xor (w / 2) e * 2 % 4294967296) (bit_and (ones (bit_xor (w / 2) e)) 1) ≡ with_parity (repaired w)
repaired_word w e h is =
    let s : bit_xor (w / 2) e ≡ repaired w = repaired_is w e is in
    let l = repaired-lt w h in
    parity_behind (bit_xor (w / 2) e) (rw s l) ∙ ap with_parity s

-- a repaired word that is within two bits is the answer
pub answer_near : (w v : ℕ) → v ≡ with_parity (repaired w) → distance_of w v ≤ 2 → Some v ≡ fix_of w
answer_near w v is near =
    let n : distance_of w (with_parity (repaired w)) ≤ 2 = rw (← is) near in
    ap (λ (x : ℕ). Some x) is ∙ sym (fix_of-near w n)

-- with a repaired word that isn't there is none
pub answer_far : (w v : ℕ) → v ≡ with_parity (repaired w) → 2 < distance_of w v → None ≡ fix_of w
answer_far w v is far =
    let f : 2 < distance_of w (with_parity (repaired w)) = rw (← is) far in
    sym (fix_of-far w f)
