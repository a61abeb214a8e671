-- Words that are recorded, and their bits, which come twice.
use Rattle.std.specs.Prelude.{ℕ, Bool, true, cond, List, [], ◌++◌, drop}
use Rattle.bits.specs.Bits.{bits_of, words_bits}
use Rattle.wires.specs.Left.{Left}

-- how many words a recording has room for
unfoldable pub recorded_words : ℕ
recorded_words = 1900000

-- the bits of words, twice
abbrev pub twice_bits : List ℕ → List Bool
twice_bits words = words_bits words ++ words_bits words

-- the bits that are still to come: those of the word that was begun, those of the words from a place on, and those of all words, unless
-- they come for the second time
abbrev pub copies_left : ℕ → ℕ → List ℕ → ℕ → Bool → List Bool
copies_left pending word words at second = bits_of pending word ++ (words_bits (drop at words) ++ cond second [] (words_bits words))

-- these bits are told, nothing fails, and nothing else is lent
abbrev pub steady_bits : List Bool → Left Bool
steady_bits bits = record { tells = true; left = bits; there = true; steady = true; faults = 0; lent = [] }
