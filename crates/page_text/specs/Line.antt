-- The printed line of a page.
use Rattle.std.specs.Prelude.{ℕ, zero, suc, ◌+◌, ◌/◌, ◌%◌, ◌^◌, ◌==◌, nat_le, ◌&&◌, if◌then◌else◌, List, [], ◌∷◌, ◌++◌, flat_map, slice_index, codes}
use Rattle.codeword.specs.declared.functions.Function.{Function}
use Rattle.codeword.specs.Functions.{letter_of}

-- the k lowest decimal digits of a number, the highest first
abbrev pub decimal_digits : ℕ → ℕ → List ℕ
decimal_digits zero n = []
decimal_digits (suc k) n = (48 + n / 10 ^ k % 10) ∷ decimal_digits k n

-- a hexadecimal digit, in capitals
abbrev pub hex_digit : ℕ → ℕ
hex_digit n = slice_index (codes "0123456789ABCDEF") n

-- how a byte of a text is written: a backslash, LF and CR by two characters, other characters 0x20 to 0x7E as themselves, and any
-- other byte by \x and two hexadecimal digits
abbrev pub escaped_byte : ℕ → List ℕ
escaped_byte c =
    if c == 92 then codes "\\\\"
    else if c == 10 then codes "\\n"
    else if c == 13 then codes "\\r"
    else if nat_le 32 c && nat_le c 126 then c ∷ []
    else codes "\\x" ++ hex_digit (c / 16) ∷ hex_digit (c % 16) ∷ []

-- seven digits of the capcode, the function's letter, the text, LF
unfoldable pub line_of : ℕ → Function → List ℕ → List ℕ
line_of capcode function text = decimal_digits 7 capcode ++ codes " " ++ letter_of function ∷ [] ++ codes " " ++ flat_map escaped_byte text ++ 10 ∷ []
