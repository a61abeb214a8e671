-- A register as the list of its bits.
use Rattle.std.proofs.Common.{◌≡◌, ℕ, ◌+◌, ◌-◌, ◌*◌, ◌%◌, ◌^◌, ◌<◌, ◌≤◌, Bool, List, [], ◌∷◌, ◌++◌, length, take, drop, arith, sym, ◌∙◌, ap, ap₂, subst, bit_or, add-one, mod-eq_of_lt}
use Rattle.bits.specs.Bits.{bits_of, bit_value, number_from}
use Rattle.bits.proofs.Lengths.{length-bits_of}
use Rattle.bits.proofs.Numbers.{bits_of-number_from, number_from-bits_of}
use Rattle.bits.proofs.Registers.{push_register, push_short, push_full, bits_of-mod}
use Rattle.std.proofs.lemmas.Nat.{pow_pos, or_shifted}
use Rattle.std.proofs.Math.Nat.{mul-lt-mul_of_pos_right, mul-le-mul_left, pow-le-pow_right}
use Rattle.std.proofs.lemmas.List.{take-append-drop, take_all}
use Rattle.wires.specs.Pieces.{taken_of}
use Rattle.wires.proofs.Pieces.{taken_is}
use Rattle.receiver.specs.Registers.{last_32}
use Rattle.receiver.proofs.Hunts.{length-push}

pub push_partial : (count r v : ℕ) (b : Bool) (view : List Bool) → bits_of count r ≡ view → count < 32 → v ≡ bit_value b
    → bits_of (count + 1) (bit_or (r * 2 % 4294967296) v) ≡ last_32 (view ++ b ∷ [])
push_partial count r v b view is h e =
    let l = length-push view b in
    let m = length-bits_of count r in
    let n : length view ≡ count = ap length (sym is) ∙ m in
    let z : length (view ++ b ∷ []) - 32 ≡ 0 = omega arith in
    ap₂ bits_of (add-one count) (ap (bit_or (r * 2 % 4294967296)) e ∙ push_register r b)
    ∙ push_short count r b h ∙ ap (λ (xs : List Bool). xs ++ b ∷ []) is ∙ ap (λ (k : ℕ). drop k (view ++ b ∷ [])) (sym z)

pub push_whole : (count r v : ℕ) (b : Bool) (view : List Bool) → bits_of count r ≡ view → 32 ≤ count → count ≤ 32 → v ≡ bit_value b
    → bits_of count (bit_or (r * 2 % 4294967296) v) ≡ last_32 (view ++ b ∷ [])
push_whole count r v b view is low high e =
    let full : count ≡ 32 = omega arith in
    let l = length-push view b in
    let m = length-bits_of count r in
    let n : length view ≡ 32 = ap length (sym is) ∙ m ∙ full in
    let z : length (view ++ b ∷ []) - 32 ≡ 1 = omega arith in
    ap₂ bits_of full (ap (bit_or (r * 2 % 4294967296)) e ∙ push_register r b)
    ∙ push_full r b ∙ ap (λ (xs : List Bool). drop 1 (xs ++ b ∷ [])) (ap (λ (k : ℕ). bits_of k r) (sym full) ∙ is)
    ∙ ap (λ (k : ℕ). drop k (view ++ b ∷ [])) (sym z)

-- `(r << n) | first` of 64 bits
pub shifted_in : (r n first : ℕ) → r < 2 ^ 32 → n ≤ 32 → first < 2 ^ n → bit_or (r * 2 ^ n % 18446744073709551616) first ≡ r * 2 ^ n + first
shifted_in r n first small below lt =
    let p : r * 2 ^ n < 2 ^ 32 * 2 ^ n = mul-lt-mul_of_pos_right small (pow_pos n) in
    let two : 0 < 2 = omega arith in
    let o : 2 ^ n ≤ 2 ^ 32 = pow-le-pow_right two below in
    let q : 2 ^ 32 * 2 ^ n ≤ 2 ^ 32 * 2 ^ 32 = mul-le-mul_left (2 ^ 32) o in
    let m : r * 2 ^ n % 18446744073709551616 ≡ r * 2 ^ n = mod-eq_of_lt (omega arith) in
    ap (λ (x : ℕ). bit_or x first) m ∙ or_shifted r n first lt

-- more bits behind those of a register: the new bits, by their number
pub filled : (count r n first : ℕ) (view taken : List Bool) → bits_of count r ≡ view → bits_of n first ≡ taken → first < 2 ^ n → r < 2 ^ 32 → count + n ≤ 32
    → bits_of (count + n) (bit_or (r * 2 ^ n % 18446744073709551616) first % 4294967296) ≡ view ++ taken
filled count r n first view taken e f lt small few =
    let p : r * 2 ^ n < 2 ^ 32 * 2 ^ n = mul-lt-mul_of_pos_right small (pow_pos n) in
    let below : n ≤ 32 = omega arith in
    let g = shifted_in r n first small below lt in
    let s : (count + n) + (32 - (count + n)) ≡ 32 = omega arith in
    let w : bits_of (count + n) ((r * 2 ^ n + first) % 4294967296) ≡ bits_of (count + n) (r * 2 ^ n + first) =
    subst (λ (x : ℕ). bits_of (count + n) ((r * 2 ^ n + first) % 2 ^ x) ≡ bits_of (count + n) (r * 2 ^ n + first)) s (bits_of-mod (count + n) (32 - (count + n)) (r * 2 ^ n + first)) in
    ap (λ (x : ℕ). bits_of (count + n) (x % 4294967296)) g ∙ w
    ∙ ap (bits_of (count + n)) (sym (number_from-bits_of n r first lt))
    ∙ ap (λ (k : ℕ). bits_of (count + k) (number_from r (bits_of n first))) (sym (length-bits_of n first))
    ∙ bits_of-number_from count r (bits_of n first)
    ∙ ap₂ (λ (xs ys : List Bool). xs ++ ys) e f

-- what was taken of a piece by its first n bits
pub first_taken : (n : ℕ) (piece left : List Bool) → left ≡ drop n piece → (piece ≡ take n piece ++ left) × (taken_of piece left ≡ take n piece)
first_taken n piece left e =
    let whole : piece ≡ take n piece ++ left = sym (take-append-drop n piece) ∙ ap (λ (xs : List Bool). take n piece ++ xs) (sym e) in
    (whole, taken_is piece (take n piece) left whole)

-- a whole piece taken by a register that held no bit
pub word_taken : (count bits : ℕ) (view word piece left : List Bool) → bits_of count bits ≡ view → count ≡ 0 → word ≡ piece → left ≡ [] → word ≡ view ++ taken_of piece left
unfolding bits_of
word_taken count bits view word piece left v z w l =
    let e : view ≡ [] = sym v ∙ ap (λ (k : ℕ). bits_of k bits) z in
    w ∙ sym (ap₂ (λ (xs ys : List Bool). xs ++ taken_of piece ys) e l ∙ take_all (length piece - 0) piece (omega arith))
