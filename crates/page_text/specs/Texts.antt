-- The text of groups: their bits run together, cut into characters, without the blanks at the end.
use Rattle.std.specs.Prelude.{ℕ, ◌+◌, ◌*◌, ◌/◌, ◌==◌, Bool, cond, List, [], ◌∷◌, length, map, flat_map, slice_index}
use Rattle.bits.specs.Bits.{bits_of, bit_value}
use Rattle.codeword.specs.declared.functions.Function.{Function}
use Rattle.codeword.specs.declared.functions.Function.TheVariants.{Numeric, Tone1, Tone2, Alpha}
use Rattle.page_text.specs.Groups.{pieces, numeric_characters}

-- the number whose binary digits these are, the least significant first
abbrev pub rising_number : List Bool → ℕ
rising_number [] = 0
rising_number (b ∷ bits) = bit_value b + 2 * rising_number bits

-- groups run together, each one's most significant bit first
abbrev pub group_bits : List ℕ → List Bool
group_bits groups = flat_map (bits_of 20) groups

-- as many whole codes of w bits as the groups hold
unfoldable pub codes_of : ℕ → List ℕ → List ℕ
codes_of w groups = map rising_number (pieces w (20 * length groups / w) (group_bits groups))

-- x before the rest of a list that lost its blanks: x is lost too where it is a blank and nothing is left behind it
abbrev pub kept : ℕ → ℕ → List ℕ → List ℕ
kept blank x [] = cond (x == blank) [] (x ∷ [])
kept blank x (y ∷ rest) = x ∷ y ∷ rest

-- a list without the blanks at its end
abbrev pub stripped : ℕ → List ℕ → List ℕ
stripped blank [] = []
stripped blank (x ∷ xs) = kept blank x (stripped blank xs)

-- the numeric character of a code
abbrev pub numeric_character : ℕ → ℕ
numeric_character code = slice_index numeric_characters code

-- Numeric: characters of four bits, without the spaces at the end. Alphanumeric: characters of seven bits, without the zeros at
-- the end. A tone has an empty text, whatever groups follow.
abbrev pub text_of : Function → List ℕ → List ℕ
text_of Numeric groups = stripped 32 (map numeric_character (codes_of 4 groups))
text_of Tone1 groups = []
text_of Tone2 groups = []
text_of Alpha groups = stripped 0 (codes_of 7 groups)
