-- Distances of lists of bits: of a list and itself, both ways, over a third list, and of parts.
use Rattle.std.proofs.Common.{◌≡◌, ℕ, zero, suc, ◌+◌, ◌≤◌, Bool, true, false, List, [], ◌∷◌, ◌++◌, length, take, arith, refl, ap₂}
use Rattle.bits.specs.Bits.{bit_value, xor, dist}

xor-self : (a : Bool) → bit_value (xor a a) ≡ 0
xor-self true = refl
xor-self false = refl

xor-sym : (a b : Bool) → xor a b ≡ xor b a
xor-sym true true = refl
xor-sym true false = refl
xor-sym false true = refl
xor-sym false false = refl

xor-triangle : (a b c : Bool) → bit_value (xor a c) ≤ bit_value (xor a b) + bit_value (xor b c)
xor-triangle true true true = omega arith
xor-triangle true true false = omega arith
xor-triangle true false true = omega arith
xor-triangle true false false = omega arith
xor-triangle false true true = omega arith
xor-triangle false true false = omega arith
xor-triangle false false true = omega arith
xor-triangle false false false = omega arith

pub dist-self : (bits : List Bool) → dist bits bits ≡ 0
dist-self [] = refl
dist-self (b ∷ bits) = let ih = dist-self bits in let s = xor-self b in omega arith

pub dist-sym : (a b : List Bool) → length a ≡ length b → dist a b ≡ dist b a
dist-sym [] [] h = refl
dist-sym [] (y ∷ b) h = absurd (omega arith)
dist-sym (x ∷ a) [] h = absurd (omega arith)
dist-sym (x ∷ a) (y ∷ b) h = ap₂ (λ (s : Bool) (n : ℕ). bit_value s + n) (xor-sym x y) (dist-sym a b (omega arith))

pub dist-triangle : (a b c : List Bool) → length a ≡ length b → length b ≡ length c → dist a c ≤ dist a b + dist b c
dist-triangle [] b c h k = omega arith
dist-triangle (x ∷ a) [] c h k = absurd (omega arith)
dist-triangle (x ∷ a) (y ∷ b) [] h k = absurd (omega arith)
dist-triangle (x ∷ a) (y ∷ b) (z ∷ c) h k =
    let ih = dist-triangle a b c (omega arith) (omega arith) in
    let t = xor-triangle x y z in
    omega arith

-- lists that begin with the same bits
pub dist-behind : (front a b : List Bool) → dist (front ++ a) (front ++ b) ≡ dist a b
dist-behind [] a b = refl
dist-behind (x ∷ front) a b = let ih = dist-behind front a b in let s = xor-self x in omega arith

pub dist-take : (n : ℕ) (a b : List Bool) → dist (take n a) (take n b) ≤ dist a b
dist-take zero a b = omega arith
dist-take (suc n) [] b = omega arith
dist-take (suc n) (x ∷ a) [] = omega arith
dist-take (suc n) (x ∷ a) (y ∷ b) = let ih = dist-take n a b in omega arith
