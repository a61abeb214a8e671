-- Bits of bytes and of words: joined, cut, and words as bytes.
use Rattle.std.proofs.Common.{◌≡◌, ℕ, zero, suc, ◌+◌, ◌*◌, ◌/◌, ◌%◌, ◌^◌, ◌==◌, Bool, List, [], ◌∷◌, ◌++◌, length, take, refl, ap, sym, ◌∙◌, append_assoc, append-nil, arith, flat_map}
use Rattle.std.proofs.Math.Nat.{div-div-eq-div-mul}
use Rattle.std.proofs.Math.Seq.{take-append-add}
use Rattle.std.proofs.lemmas.Grind.{common_steps}
use Rattle.std.specs.Int.{to_be_bytes, w32}
use Rattle.bits.specs.Bits.{bits_of, word_bits, words_bits, bytes_bits}
use Rattle.bits.proofs.Lengths.{length-bits_of}

-- the n + m lowest bits are the n above the m lowest, and these
pub bits_of-add : (n m w : ℕ) → bits_of (n + m) w ≡ bits_of n (w / 2 ^ m) ++ bits_of m w
unfolding bits_of
bits_of-add n zero w =
    let e : n + 0 ≡ n = omega arith in
    let d : w / 2 ^ 0 ≡ w = omega arith in
    rw (e, d, append-nil) refl
bits_of-add n (suc m) w =
    let s : n + suc m ≡ suc (n + m) = omega arith in
    let p : 2 ^ suc m ≡ 2 * 2 ^ m = omega arith in
    let last : List Bool = (w % 2 == 1) ∷ [] in
    let joined : bits_of (n + m) (w / 2) ++ last ≡ bits_of n (w / (2 * 2 ^ m)) ++ (bits_of m (w / 2) ++ last) =
    rw (bits_of-add n m (w / 2), div-div-eq-div-mul w 2 (2 ^ m)) (append_assoc (bits_of n (w / (2 * 2 ^ m))) (bits_of m (w / 2)) last) in
    rw (s, p) joined

-- the bits of a byte are those of its lowest eight bits
pub bits_of-mod : (w : ℕ) → bits_of 8 (w % 256) ≡ bits_of 8 w
unfolding bits_of
bits_of-mod w =
    let a : w % 256 / 2 / 2 / 2 / 2 / 2 / 2 / 2 % 2 ≡ w / 2 / 2 / 2 / 2 / 2 / 2 / 2 % 2 = omega arith in
    let b : w % 256 / 2 / 2 / 2 / 2 / 2 / 2 % 2 ≡ w / 2 / 2 / 2 / 2 / 2 / 2 % 2 = omega arith in
    let c : w % 256 / 2 / 2 / 2 / 2 / 2 % 2 ≡ w / 2 / 2 / 2 / 2 / 2 % 2 = omega arith in
    let d : w % 256 / 2 / 2 / 2 / 2 % 2 ≡ w / 2 / 2 / 2 / 2 % 2 = omega arith in
    let e : w % 256 / 2 / 2 / 2 % 2 ≡ w / 2 / 2 / 2 % 2 = omega arith in
    let f : w % 256 / 2 / 2 % 2 ≡ w / 2 / 2 % 2 = omega arith in
    let g : w % 256 / 2 % 2 ≡ w / 2 % 2 = omega arith in
    let h : w % 256 % 2 ≡ w % 2 = omega arith in
    rw (a, b, c, d, e, f, g, h) refl

pub flat_map-append : {X A : Type 0} (f : X → List A) (xs ys : List X) → flat_map f (xs ++ ys) ≡ flat_map f xs ++ flat_map f ys
flat_map-append f [] ys = refl
flat_map-append f (x ∷ xs) ys = ap (λ (zs : List _). f x ++ zs) (flat_map-append f xs ys) ∙ sym (append_assoc (f x) (flat_map f xs) (flat_map f ys))

pub bytes_bits-append : (xs ys : List ℕ) → bytes_bits (xs ++ ys) ≡ bytes_bits xs ++ bytes_bits ys
bytes_bits-append xs ys = flat_map-append (bits_of 8) xs ys

pub words_bits-append : (xs ys : List ℕ) → words_bits (xs ++ ys) ≡ words_bits xs ++ words_bits ys
words_bits-append xs ys = flat_map-append word_bits xs ys

-- the first 8 * n bits are those of the first n bytes
pub take-bytes_bits : (n : ℕ) (xs : List ℕ) → take (8 * n) (bytes_bits xs) ≡ bytes_bits (take n xs)
take-bytes_bits zero xs = refl
take-bytes_bits (suc n) [] = grind (arith, common_steps)
take-bytes_bits (suc n) (x ∷ xs) =
    let e : 8 * suc n ≡ length (bits_of 8 x) + 8 * n = omega (arith, length-bits_of 8 x) in
    rw e (take-append-add (bits_of 8 x) (bytes_bits xs) (8 * n) ∙ ap (λ (bs : List Bool). bits_of 8 x ++ bs) (take-bytes_bits n xs))

-- a word's four bytes have the word's bits
pub bytes_bits-word : (w : ℕ) → bytes_bits (to_be_bytes w32 w) ≡ word_bits w
bytes_bits-word w =
    let a : bits_of 32 w ≡ bits_of 8 (w / 2 ^ 24) ++ bits_of 24 w = bits_of-add 8 24 w in
    let b : bits_of 24 w ≡ bits_of 8 (w / 2 ^ 16) ++ bits_of 16 w = bits_of-add 8 16 w in
    let c : bits_of 16 w ≡ bits_of 8 (w / 2 ^ 8) ++ bits_of 8 w = bits_of-add 8 8 w in
    rw (bits_of-mod (w / 16777216), bits_of-mod (w / 65536), bits_of-mod (w / 256), bits_of-mod w, a, b, c, append-nil) refl

-- the bytes of words have the words' bits
pub bytes_bits-words : (ws : List ℕ) → bytes_bits (flat_map (to_be_bytes w32) ws) ≡ words_bits ws
bytes_bits-words [] = refl
bytes_bits-words (w ∷ ws) = bytes_bits-append (to_be_bytes w32 w) (flat_map (to_be_bytes w32) ws) ∙ rw (bytes_bits-word w, bytes_bits-words ws) refl
