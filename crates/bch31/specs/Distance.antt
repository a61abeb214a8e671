-- How far words are apart.
use Rattle.std.specs.Prelude.{◌≢◌, ℕ, ◌≤◌}
use Rattle.bits.specs.Bits.{word_bits, dist}
use Rattle.bch31.specs.Codeword.{IsCodeword}

-- the number of places where two words differ
abbrev pub distance_of : ℕ → ℕ → ℕ
distance_of a b = dist (word_bits a) (word_bits b)

-- two different codewords differ in at least six places
abbrev pub CodewordsAreSixApart : Type 0
CodewordsAreSixApart = (a b : ℕ) → IsCodeword a → IsCodeword b → a ≢ b → 6 ≤ distance_of a b
