-- Numbers as lists of bits: there and back.
use Rattle.std.proofs.Common.{◌≡◌, ℕ, zero, suc, ◌+◌, ◌*◌, ◌/◌, ◌%◌, ◌^◌, ◌<◌, ◌≤◌, Bool, true, false, ◌==◌, List, [], ◌∷◌, ◌++◌, length, arith, refl, sym, ◌∙◌, ap, ap₂, ◌⊎◌, inl, inr, eq-zero-or-pos, append_assoc, append-nil, add-zero, mul-le-mul_right}
use Rattle.std.proofs.Math.Nat.{pow-suc}
use Rattle.bits.specs.Bits.{bits_of, bit_value, number_from, number}

-- half of a number of k + 1 bits has k bits
pub half_below : (k n : ℕ) → n < 2 ^ suc k → n / 2 < 2 ^ k
half_below k n h = let q : 2 ^ suc k ≡ 2 ^ k * 2 = pow-suc 2 k in omega arith

-- a number below 2 is 0 or 1
pub below_two : (p : ℕ) → p < 2 → (p ≡ 0) ⊎ (p ≡ 1)
below_two p h = elim (eq-zero-or-pos p) [ inl z ↦ inl z | inr z ↦ inr (omega arith) ]

-- the lowest bit of a number is 0 or 1
pub bit_cases : (n : ℕ) → (n % 2 ≡ 0) ⊎ (n % 2 ≡ 1)
bit_cases n = below_two (n % 2) (omega arith)

-- the value of a bit is 0 or 1
pub bit_value-lt : (b : Bool) → bit_value b < 2
bit_value-lt true = omega arith
bit_value-lt false = omega arith

-- a bit from its value
pub bit_value_back : (b : Bool) → (bit_value b == 1) ≡ b
bit_value_back true = refl
bit_value_back false = refl

-- the value of a bit that was read from a number below 2
pub bit_value-eqb : (p : ℕ) → p < 2 → bit_value (p == 1) ≡ p
bit_value-eqb p h = elim (below_two p h) [ inl z ↦ rw z refl | inr o ↦ rw o refl ]

-- one more bit at the end of a list from a number
pub bits_of-push : (k n : ℕ) (b : Bool) → bits_of (suc k) (n * 2 + bit_value b) ≡ bits_of k n ++ b ∷ []
unfolding bits_of
bits_of-push k n b =
    let h = bit_value-lt b in
    let half : (n * 2 + bit_value b) / 2 ≡ n = omega arith in
    let low : (n * 2 + bit_value b) % 2 ≡ bit_value b = omega arith in
    rw (half, low) (ap (λ (x : Bool). bits_of k n ++ x ∷ []) (bit_value_back b))

-- the digits of two lists, one after the other
pub number_from-append : (n : ℕ) (xs ys : List Bool) → number_from n (xs ++ ys) ≡ number_from (number_from n xs) ys
number_from-append n [] ys = refl
number_from-append n (x ∷ xs) ys = number_from-append (n * 2 + bit_value x) xs ys

-- one more digit at the end
pub number-push : (xs : List Bool) (b : Bool) → number (xs ++ b ∷ []) ≡ number xs * 2 + bit_value b
number-push xs b = number_from-append 0 xs (b ∷ [])

-- the bits of a number come next after the digits of another
pub number_from-bits_of : (k m n : ℕ) → n < 2 ^ k → number_from m (bits_of k n) ≡ m * 2 ^ k + n
unfolding bits_of
number_from-bits_of zero m n h = omega arith
number_from-bits_of (suc k) m n h =
    let e : 2 ^ suc k ≡ 2 ^ k * 2 = pow-suc 2 k in
    let ih = number_from-bits_of k m (n / 2) (half_below k n h) in
    let last : bit_value (n % 2 == 1) ≡ n % 2 = bit_value-eqb (n % 2) (omega arith) in
    number_from-append m (bits_of k (n / 2)) ((n % 2 == 1) ∷ [])
    ∙ ap₂ (λ (x y : ℕ). x * 2 + y) ih last
    ∙ (let d : (m * 2 ^ k + n / 2) * 2 ≡ m * (2 ^ k * 2) + n / 2 * 2 = omega arith in rw e (omega arith))

-- the number of the bits of a number is that number
pub number-bits_of : (k n : ℕ) → n < 2 ^ k → number (bits_of k n) ≡ n
number-bits_of k n h = number_from-bits_of k 0 n h ∙ omega arith

-- the bits of digits that come next after those of a number
pub bits_of-number_from : (j m : ℕ) (ys : List Bool) → bits_of (j + length ys) (number_from m ys) ≡ bits_of j m ++ ys
bits_of-number_from j m [] = ap (λ (x : ℕ). bits_of x m) (add-zero j) ∙ sym (append-nil (bits_of j m))
bits_of-number_from j m (y ∷ ys) =
    let e : j + length (y ∷ ys) ≡ suc j + length ys = omega arith in
    ap (λ (x : ℕ). bits_of x (number_from (m * 2 + bit_value y) ys)) e
    ∙ bits_of-number_from (suc j) (m * 2 + bit_value y) ys
    ∙ ap (λ (xs : List Bool). xs ++ ys) (bits_of-push j m y)
    ∙ append_assoc (bits_of j m) (y ∷ []) ys

-- the bits of the number of a list are that list
pub bits_of-number : (bits : List Bool) → bits_of (length bits) (number bits) ≡ bits
unfolding bits_of
bits_of-number bits =
    let e : length bits ≡ 0 + length bits = omega arith in
    ap (λ (x : ℕ). bits_of x (number bits)) e ∙ bits_of-number_from 0 0 bits

-- k digits after those of n make a number below (n + 1) * 2 ^ k
pub number_from-lt : (n : ℕ) (bits : List Bool) → number_from n bits < (n + 1) * 2 ^ length bits
number_from-lt n [] = omega arith
number_from-lt n (b ∷ bits) =
    let ih = number_from-lt (n * 2 + bit_value b) bits in
    let e : 2 ^ suc (length bits) ≡ 2 ^ length bits * 2 = pow-suc 2 (length bits) in
    let v = bit_value-lt b in
    let m : (n * 2 + bit_value b + 1) * 2 ^ length bits ≤ (n * 2 + 2) * 2 ^ length bits = mul-le-mul_right (2 ^ length bits) (omega arith) in
    let d : (n * 2 + 2) * 2 ^ length bits ≡ (n + 1) * (2 ^ length bits * 2) = omega arith in
    rw e (omega arith)

-- k digits make a number below 2 ^ k
pub number-lt : (bits : List Bool) → number bits < 2 ^ length bits
number-lt bits = let h = number_from-lt 0 bits in omega arith
