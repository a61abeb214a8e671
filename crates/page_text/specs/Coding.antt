-- How the characters of a text are coded in bits.
use Rattle.std.specs.Prelude.{ℕ, ◌<◌, List, map, Contains}
use Rattle.page_text.specs.declared.coding.Coding.{Coding}
use Rattle.page_text.specs.declared.coding.Coding.TheVariants.{Numeric, Alphanumeric}
use Rattle.page_text.specs.Groups.{numeric_characters, numeric_code}
use Rattle.page_text.specs.Texts.{numeric_character}

-- how many bits a character has
abbrev pub width_of : Coding → ℕ
width_of Numeric = 4
width_of Alphanumeric = 7

-- the code that a text's last group is filled with
abbrev pub fill_of : Coding → ℕ
fill_of Numeric = 12
fill_of Alphanumeric = 0

-- the character of that code
abbrev pub blank_of : Coding → ℕ
blank_of Numeric = 32
blank_of Alphanumeric = 0

-- a character that has a code
abbrev pub HasCode : Coding → ℕ → Type 0
HasCode Numeric c = Contains numeric_characters c
HasCode Alphanumeric c = c < 128

-- the code of a character
abbrev pub code_of : Coding → ℕ → ℕ
code_of Numeric c = numeric_code c
code_of Alphanumeric c = c

-- the codes of a text
abbrev pub text_codes : Coding → List ℕ → List ℕ
text_codes Numeric text = map numeric_code text
text_codes Alphanumeric text = text

-- the character of a code
abbrev pub character_of : Coding → ℕ → ℕ
character_of Numeric code = numeric_character code
character_of Alphanumeric code = code

-- the characters of codes
abbrev pub characters_of : Coding → List ℕ → List ℕ
characters_of Numeric codes = map numeric_character codes
characters_of Alphanumeric codes = codes
