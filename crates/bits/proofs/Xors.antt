-- The xor of numbers, by halves and lowest bits.
use Rattle.std.proofs.Common.{◌≡◌, ℕ, ◌+◌, ◌*◌, ◌/◌, ◌%◌, ◌<◌, sym, ◌∙◌, ap, bit_xor}
use Rattle.std.specs.Int.Bits.{xor_block, xor_shr, xor_mod, xor_assoc, xor_comm, xor_self, xor_zero_l, xor_zero_r}

-- the half of a xor
pub xor_half : (a b : ℕ) → bit_xor a b / 2 ≡ bit_xor (a / 2) (b / 2)
xor_half a b = xor_shr a b 1

-- the lowest bit of a xor
pub xor_low : (a b : ℕ) → bit_xor a b % 2 ≡ bit_xor (a % 2) (b % 2)
xor_low a b = xor_mod a b 1

-- a xor of numbers that are given by half and lowest bit
pub xor_double : (u v s t : ℕ) → s < 2 → t < 2 → bit_xor (u * 2 + s) (v * 2 + t) ≡ bit_xor u v * 2 + bit_xor s t
xor_double u v s t hs ht = xor_block 1 u v s t hs ht

-- four numbers, the two in the middle swapped
pub xor_swap : (a b c d : ℕ) → bit_xor (bit_xor a b) (bit_xor c d) ≡ bit_xor (bit_xor a c) (bit_xor b d)
xor_swap a b c d =
    xor_assoc a b (bit_xor c d)
    ∙ ap (bit_xor a) (sym (xor_assoc b c d) ∙ ap (λ (x : ℕ). bit_xor x d) (xor_comm b c) ∙ xor_assoc c b d)
    ∙ sym (xor_assoc a c (bit_xor b d))

-- a number taken off again
pub xor_cancel : (a e : ℕ) → bit_xor a (bit_xor a e) ≡ e
xor_cancel a e = sym (xor_assoc a a e) ∙ ap (λ (x : ℕ). bit_xor x e) (xor_self a) ∙ xor_zero_l e

-- numbers whose xor is 0 are the same
pub same_from_xor : (a b : ℕ) → bit_xor a b ≡ 0 → a ≡ b
same_from_xor a b h =
    sym (xor_zero_r a) ∙ ap (bit_xor a) (sym (xor_self b)) ∙ sym (xor_assoc a b b) ∙ ap (λ (x : ℕ). bit_xor x b) h ∙ xor_zero_l b
