-- How many bits there are.
use Rattle.std.proofs.Common.{◌≡◌, ℕ, zero, suc, ◌*◌, ◌/◌, ◌%◌, ◌==◌, List, [], ◌∷◌, length, length-append, arith, refl, ◌∙◌}
use Rattle.bits.specs.Bits.{bits_of, rising_bits_of, words_bits, word_bits, bytes_bits}

pub length-bits_of : (k n : ℕ) → length (bits_of k n) ≡ k
unfolding bits_of
length-bits_of zero n = refl
length-bits_of (suc k) n = length-append (bits_of k (n / 2)) ((n % 2 == 1) ∷ []) ∙ (let h = length-bits_of k (n / 2) in omega arith)

pub length-rising_bits_of : (k n : ℕ) → length (rising_bits_of k n) ≡ k
unfolding rising_bits_of
length-rising_bits_of zero n = refl
length-rising_bits_of (suc k) n = let h = length-rising_bits_of k (n / 2) in omega arith

pub length-words_bits : (ws : List ℕ) → length (words_bits ws) ≡ 32 * length ws
length-words_bits [] = refl
length-words_bits (w ∷ ws) = omega (arith, length-append (word_bits w) (words_bits ws), length-bits_of 32 w, length-words_bits ws)

pub length-bytes_bits : (bs : List ℕ) → length (bytes_bits bs) ≡ 8 * length bs
length-bytes_bits [] = refl
length-bytes_bits (b ∷ bs) = omega (arith, length-append (bits_of 8 b) (bytes_bits bs), length-bits_of 8 b, length-bytes_bits bs)
