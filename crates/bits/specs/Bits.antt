-- Numbers as lists of bits. Bits are listed in the order in which they are sent.
use Rattle.std.specs.Prelude.{ℕ, zero, suc, ◌+◌, ◌*◌, ◌/◌, ◌%◌, ◌==◌, Bool, true, false, List, [], ◌∷◌, ◌++◌, flat_map}

-- the k lowest bits of a number, the most significant first
unfoldable pub bits_of : ℕ → ℕ → List Bool
bits_of zero n = []
bits_of (suc k) n = bits_of k (n / 2) ++ (n % 2 == 1) ∷ []

-- the k lowest bits of a number, the least significant first
unfoldable pub rising_bits_of : ℕ → ℕ → List Bool
rising_bits_of zero n = []
rising_bits_of (suc k) n = (n % 2 == 1) ∷ rising_bits_of k (n / 2)

-- the 32 bits of a word, bit 1 first
abbrev pub word_bits : ℕ → List Bool
word_bits word = bits_of 32 word

-- the bits of words, one word after another
abbrev pub words_bits : List ℕ → List Bool
words_bits words = flat_map word_bits words

-- the bits of bytes, each byte's most significant bit first
abbrev pub bytes_bits : List ℕ → List Bool
bytes_bits bytes = flat_map (bits_of 8) bytes

abbrev pub bit_value : Bool → ℕ
bit_value true = 1
bit_value false = 0

-- the number whose binary digits come next after those of n, the most significant first
abbrev pub number_from : ℕ → List Bool → ℕ
number_from n [] = n
number_from n (b ∷ bits) = number_from (n * 2 + bit_value b) bits

-- the number whose binary digits these are, the most significant first
abbrev pub number : List Bool → ℕ
number bits = number_from 0 bits

-- two bits added modulo 2
abbrev pub xor : Bool → Bool → Bool
xor true true = false
xor true false = true
xor false b = b

-- the number of places where two lists of one length differ
abbrev pub dist : List Bool → List Bool → ℕ
dist [] ys = 0
dist (x ∷ xs) [] = 0
dist (x ∷ xs) (y ∷ ys) = bit_value (xor x y) + dist xs ys
