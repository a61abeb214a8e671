-- Pieces of which the first elements were taken.
use Rattle.std.proofs.Common.{◌≡◌, ◌≢◌, ℕ, zero, suc, ◌+◌, ◌-◌, ◌/◌, ◌%◌, ◌^◌, ◌≤◌, ◌==◌, Bool, List, [], ◌∷◌, ◌++◌, length, length-append, take, drop, arith, refl, sym, ◌∙◌, ap, subst, append_assoc}
use Rattle.std.proofs.Math.Seq.{take-append_seam, drop-append_seam}
use Rattle.bits.specs.Bits.{bits_of}
use Rattle.bits.proofs.Bytes.{bits_of-add}
use Rattle.bits.proofs.Lengths.{length-bits_of}
use Rattle.bits.proofs.Registers.{bits_of-mod}
use Rattle.wires.specs.Pieces.{taken_of}

pub taken_is : {A : Type 0} (old taken new : List A) → old ≡ taken ++ new → taken_of old new ≡ taken
taken_is {A} old taken new e =
    let l = length-append taken new in
    let n : length (taken ++ new) - length new ≡ length taken = omega arith in
    ap (λ (xs : List A). taken_of xs new) e ∙ ap (λ (k : ℕ). take k (taken ++ new)) n ∙ take-append_seam taken new

-- the first of suc k bits
pub first_bit : (k n : ℕ) → bits_of (suc k) n ≡ (n / 2 ^ k % 2 == 1) ∷ bits_of k n
unfolding bits_of
first_bit k n = let e : 1 + k ≡ suc k = omega arith in subst (λ (j : ℕ). bits_of j n ≡ (n / 2 ^ k % 2 == 1) ∷ bits_of k n) e (bits_of-add 1 k n)

pub first_bits : (n k w : ℕ) → bits_of n (w / 2 ^ k % 2 ^ n) ≡ take n (bits_of (n + k) w)
first_bits n k w =
    let m : n + 0 ≡ n = omega arith in
    let l = length-bits_of n (w / 2 ^ k) in
    subst (λ (j : ℕ). bits_of n (w / 2 ^ k % 2 ^ j) ≡ bits_of n (w / 2 ^ k)) m (bits_of-mod n 0 (w / 2 ^ k))
    ∙ sym (ap (λ (xs : List Bool). take n xs) (bits_of-add n k w)
    ∙ ap (λ (j : ℕ). take j (bits_of n (w / 2 ^ k) ++ bits_of k w)) (sym l) ∙ take-append_seam (bits_of n (w / 2 ^ k)) (bits_of k w))

pub last_bits : (n k w : ℕ) → bits_of k w ≡ drop n (bits_of (n + k) w)
last_bits n k w =
    let l = length-bits_of n (w / 2 ^ k) in
    sym (ap (λ (xs : List Bool). drop n xs) (bits_of-add n k w)
    ∙ ap (λ (j : ℕ). drop j (bits_of n (w / 2 ^ k) ++ bits_of k w)) (sym l) ∙ drop-append_seam (bits_of n (w / 2 ^ k)) (bits_of k w))

pub none_left : (count w : ℕ) → count ≡ 0 → bits_of count w ≡ []
unfolding bits_of
none_left zero w e = refl
none_left (suc count) w e = cc

pub pops : (count w : ℕ) → count ≢ 0 → bits_of count w ≡ (w / 2 ^ (count - 1) % 2 == 1) ∷ bits_of (count - 1) w
pops zero w h = absurd (h refl)
pops (suc k) w h = let e : suc k - 1 ≡ k = omega arith in rw e (first_bit k w)

pub takes_first : (n count w : ℕ) → n ≤ count → bits_of n (w / 2 ^ (count - n) % 2 ^ n) ≡ take n (bits_of count w)
takes_first n count w h = let e : n + (count - n) ≡ count = omega arith in first_bits n (count - n) w ∙ ap (λ (k : ℕ). take n (bits_of k w)) e

pub takes_last : (n count w : ℕ) → n ≤ count → bits_of (count - n) w ≡ drop n (bits_of count w)
takes_last n count w h = let e : n + (count - n) ≡ count = omega arith in last_bits n (count - n) w ∙ ap (λ (k : ℕ). drop n (bits_of k w)) e

-- what was taken in two steps
pub taken_twice : {A : Type 0} (old between new : List A) → old ≡ taken_of old between ++ between → between ≡ taken_of between new ++ new
    → taken_of old new ≡ taken_of old between ++ taken_of between new
taken_twice {A} old between new e f =
    taken_is old (taken_of old between ++ taken_of between new) new
    (e ∙ ap (λ (xs : List A). taken_of old between ++ xs) f ∙ sym (append_assoc (taken_of old between) (taken_of between new) new))

pub within : (n count bits : ℕ) (view : List Bool) → bits_of count bits ≡ view → n ≤ length view → n ≤ count
within n count bits view e h = let l = ap length e in let m = length-bits_of count bits in omega arith

-- the bits above the k lowest don't count
pub low_bits : (k w : ℕ) → bits_of k (w % 2 ^ k) ≡ bits_of k w
low_bits k w = let m : k + 0 ≡ k = omega arith in subst (λ (j : ℕ). bits_of k (w % 2 ^ j) ≡ bits_of k w) m (bits_of-mod k 0 w)
