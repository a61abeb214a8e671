-- Bits turned one after another, for the plain search.
use Rattle.std.proofs.Common.{◌≡◌, ◌≢◌, ℕ, zero, suc, ◌+◌, ◌-◌, ◌*◌, ◌%◌, ◌^◌, ◌<◌, ◌≤◌, arith, refl, subst, sym, ◌∙◌, ap, ap₂, ◌⊎◌, inl, inr, bit_xor, mod-eq_of_lt, Option, Some, None, IfSome}
use Rattle.std.proofs.lemmas.Bool.{cases_lt}
use Rattle.std.proofs.Math.Pow.{pow_pos, pow-lt}
use Rattle.std.proofs.Math.Nat.{pow-suc}
use Rattle.std.specs.Int.Bits.{xor_block, xor_lt, xor_assoc, xor_comm, xor_self, xor_zero_r}
use Rattle.std.specs.Int.Count.{ones, ones_cat}
use Rattle.bits.proofs.Xors.{same_from_xor}
use Rattle.bits.proofs.Distances.{ones-zero, ones-one}
use Rattle.bch31.specs.Codeword.{IsCodeword}
use Rattle.bch31.specs.Fix.{IsFix}
use Rattle.bch31.specs.Twin.{IsNear}
use Rattle.bch31.proofs.Light.{no_ones}
use Rattle.bch31.proofs.Apart.{distance_of-ones, codeword-lt}

-- a codeword is near itself
pub near_itself : (w k n : ℕ) → IsCodeword w → IsNear w w k n
near_itself w k n c = record {
  codeword = c;
  low = rw (xor_self w) (pow_pos k);
  few = rw (xor_self w) (let z = ones-zero in omega arith);
}

-- with no place left only the word itself is near
pub nearest : (w v n : ℕ) → IsNear w v 0 n → IsCodeword w
nearest w v n h =
    let l = h.low in
    let z : bit_xor w v ≡ 0 = omega arith in
    rw (same_from_xor w v z) h.codeword

-- one place more
pub near_wider : (w v k n : ℕ) → IsNear w v k n → IsNear w v (suc k) n
near_wider w v k n h = record {
  codeword = h.codeword;
  low = let p : 2 ^ suc k ≡ 2 ^ k * 2 = pow-suc 2 k in let l = h.low in omega arith;
  few = h.few;
}

-- a turned bit of the first word is a turned bit of the difference
turned : (w v t : ℕ) → bit_xor (bit_xor w t) v ≡ bit_xor (bit_xor w v) t
turned w v t = xor_assoc w t v ∙ ap (bit_xor w) (xor_comm t v) ∙ sym (xor_assoc w v t)

-- a bit turned twice
turned_back : (d t : ℕ) → bit_xor (bit_xor d t) t ≡ d
turned_back d t = xor_assoc d t t ∙ ap (bit_xor d) (xor_self t) ∙ xor_zero_r d

-- the bit above k bits, turned
turn_high : (k r : ℕ) → r < 2 ^ k → bit_xor (2 ^ k + r) (2 ^ k) ≡ r
turn_high k r h =
    let a : 2 ^ k + r ≡ 1 * 2 ^ k + r = omega arith in
    let b : 2 ^ k ≡ 1 * 2 ^ k + 0 = omega arith in
    let c : 0 * 2 ^ k + bit_xor r 0 ≡ r = ap (λ (x : ℕ). 0 * 2 ^ k + x) (xor_zero_r r) ∙ omega arith in
    ap₂ bit_xor a b ∙ xor_block k 1 1 r 0 h (pow_pos k) ∙ c

-- the ones of k bits with a one above them
ones_above : (k r : ℕ) → r < 2 ^ k → ones (2 ^ k + r) ≡ ones r + 1
ones_above k r h =
    let a : 2 ^ k + r ≡ 1 * 2 ^ k + r = omega arith in
    let c = ones_cat k 1 r h in
    let o = ones-one in
    ap ones a ∙ omega arith

-- near after the bit above is turned
pub near_turned : (w v k n : ℕ) → IsNear (bit_xor w (2 ^ k)) v k n → IsNear w v (suc k) (suc n)
near_turned w v k n h =
    let d : ℕ = bit_xor (bit_xor w (2 ^ k)) v in
    let dl : d < 2 ^ k = h.low in
    let df : ones d ≤ n = h.few in
    let back : bit_xor w v ≡ bit_xor d (2 ^ k) = sym (turned_back (bit_xor w v) (2 ^ k)) ∙ ap (λ (x : ℕ). bit_xor x (2 ^ k)) (sym (turned w v (2 ^ k))) in
    let whole : bit_xor d (2 ^ k) ≡ 2 ^ k + d = ap (λ (x : ℕ). bit_xor x (2 ^ k)) (sym (turn_high k d dl)) ∙ turned_back (2 ^ k + d) (2 ^ k) in
    let o = ones_above k d dl in
    record {
      codeword = h.codeword;
      low = rw (back ∙ whole) (let p : 2 ^ suc k ≡ 2 ^ k * 2 = pow-suc 2 k in omega arith);
      few = rw (back ∙ whole) (omega arith);
    }

-- near by one place more: near without it, or near after it is turned
pub near_cases : (w v k n : ℕ) → IsNear w v (suc k) (suc n) → IsNear w v k (suc n) ⊎ IsNear (bit_xor w (2 ^ k)) v k n
near_cases w v k n h =
    let e : ℕ = bit_xor w v in
    let l : e < 2 ^ suc k = h.low in
    let f : ones e ≤ suc n = h.few in
    let p : 2 ^ suc k ≡ 2 ^ k * 2 = pow-suc 2 k in
    elim (cases_lt e (2 ^ k)) [
      | inl low ↦ inl (record { codeword = h.codeword; low = low; few = f })
      | inr high ↦
          let r : ℕ = e - 2 ^ k in
          let small : r < 2 ^ k = omega arith in
          let whole : e ≡ 2 ^ k + r = omega arith in
          let o = ones_above k r small in
          let same : ones e ≡ ones (2 ^ k + r) = ap ones whole in
          let turn : bit_xor (bit_xor w (2 ^ k)) v ≡ r = turned w v (2 ^ k) ∙ ap (λ (x : ℕ). bit_xor x (2 ^ k)) whole ∙ turn_high k r small in
          inr (record { codeword = h.codeword; low = rw turn small; few = rw turn (omega arith) })
    ]

-- with no bit to turn one place more gives nothing
pub near_unturned : (w v k : ℕ) → IsNear w v (suc k) 0 → IsNear w v k 0
near_unturned w v k h =
    let z : bit_xor w v ≡ 0 = no_ones (suc k) (bit_xor w v) h.low h.few in
    record { codeword = h.codeword; low = rw z (pow_pos k); few = h.few }

-- within two of 32 bits
pub fix_from_search : (w v : ℕ) → w < 2 ^ 32 → IsNear w v 32 2 → IsFix w v
fix_from_search w v h n = record { codeword = n.codeword; near = rw (distance_of-ones w v h (codeword-lt n.codeword)) n.few }

-- and the other way round
pub search_from_fix : (w v : ℕ) → w < 2 ^ 32 → IsFix w v → IsNear w v 32 2
search_from_fix w v h f = record {
  codeword = f.codeword;
  low = xor_lt 32 w v h (codeword-lt f.codeword);
  few = rw (← distance_of-ones w v h (codeword-lt f.codeword)) f.near;
}

-- one place less, by its number
less : (k : ℕ) → suc k - 1 ≡ k
less k = omega arith

-- what is near by fewer places is near
pub step_wider : (w v p n : ℕ) → p ≢ 0 → IsNear w v (p - 1) n → IsNear w v p n
step_wider w v zero n h near = absurd (h refl)
step_wider w v (suc k) n h near = near_wider w v k n (subst (λ (x : ℕ). IsNear w v x n) (less k) near)

-- what is near after a turn is near
pub step_turned : (w v p n : ℕ) → p ≢ 0 → n ≢ 0 → IsNear (bit_xor w (2 ^ (p - 1))) v (p - 1) (n - 1) → IsNear w v p n
step_turned w v zero n h m near = absurd (h refl)
step_turned w v (suc k) zero h m near = absurd (m refl)
step_turned w v (suc k) (suc n) h m near =
    let a = subst (λ (x : ℕ). IsNear (bit_xor w (2 ^ x)) v x (suc n - 1)) (less k) near in
    near_turned w v k n (subst (λ (x : ℕ). IsNear (bit_xor w (2 ^ k)) v k x) (less n) a)

-- what is near neither by fewer places nor after a turn isn't near
pub step_none : (w v p n : ℕ) → p ≢ 0 → n ≢ 0 → (IsNear w v (p - 1) n → ⊥) → (IsNear (bit_xor w (2 ^ (p - 1))) v (p - 1) (n - 1) → ⊥) → IsNear w v p n → ⊥
step_none w v zero n h m not_fewer not_turned near = absurd (h refl)
step_none w v (suc k) zero h m not_fewer not_turned near = absurd (m refl)
step_none w v (suc k) (suc n) h m not_fewer not_turned near = elim (near_cases w v k n near) [
  | inl fewer ↦ not_fewer (subst (λ (x : ℕ). IsNear w v x (suc n)) (sym (less k)) fewer)
  | inr turn ↦
      let a = subst (λ (x : ℕ). IsNear (bit_xor w (2 ^ k)) v k x) (sym (less n)) turn in
      not_turned (subst (λ (x : ℕ). IsNear (bit_xor w (2 ^ x)) v x (suc n - 1)) (sym (less k)) a)
]

-- the same with no bit to turn
pub step_last : (w v p n : ℕ) → p ≢ 0 → n ≡ 0 → (IsNear w v (p - 1) n → ⊥) → IsNear w v p n → ⊥
step_last w v zero n h m not_fewer near = absurd (h refl)
step_last w v (suc k) n h m not_fewer near =
    let a : IsNear w v (suc k) 0 = subst (λ (x : ℕ). IsNear w v (suc k) x) m near in
    let b : IsNear w v (suc k - 1) 0 = subst (λ (x : ℕ). IsNear w v x 0) (sym (less k)) (near_unturned w v k a) in
    not_fewer (subst (λ (x : ℕ). IsNear w v (suc k - 1) x) (sym m) b)

-- what holds of the value, through an implication
pub some_map : {P Q : ℕ → Type 0} (r : Option ℕ) → ((v : ℕ) → P v → Q v) → IfSome r P → IfSome r Q
some_map None f h = tt
some_map (Some v) f h = f v h

-- `1 << (p - 1)`
pub bit_above : (p : ℕ) → p ≢ 0 → p ≤ 32 → 1 * 2 ^ (p - 1) % 4294967296 ≡ 2 ^ (p - 1)
bit_above zero h l = absurd (h refl)
bit_above (suc k) h l =
    let e : suc k - 1 ≡ k = less k in
    let s : k < 32 = omega arith in
    let b : 2 ^ k < 2 ^ 32 = pow-lt {i = k} {j = 32} s in
    rw e (ap (λ (x : ℕ). x % 4294967296) (let o : 1 * 2 ^ k ≡ 2 ^ k = omega arith in o) ∙ mod-eq_of_lt b)
