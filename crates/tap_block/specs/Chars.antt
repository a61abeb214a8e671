-- Characters, and the sum of a block.
use Rattle.entry_line.specs.Chars.{char_of}
use Rattle.std.specs.Prelude.{ℕ, ◌+◌, ◌/◌, ◌%◌, ◌<◌, List, [], ◌∷◌, map, sum}
use Rattle.tap_block.specs.declared.ends.End.{End}
use Rattle.tap_block.specs.declared.ends.End.TheVariants.{Etx, Etb, Us}

-- start of text
abbrev pub stx : ℕ
stx = 2

-- end of text
abbrev pub etx : ℕ
etx = 3

-- end of transmission
abbrev pub eot : ℕ
eot = 4

-- end of transmission block
abbrev pub etb : ℕ
etb = 23

-- substitute
abbrev pub sub : ℕ
sub = 26

-- escape
abbrev pub esc : ℕ
esc = 27

-- unit separator
abbrev pub us : ℕ
us = 31

-- a byte that is its own character
abbrev pub IsChar : ℕ → Type 0
IsChar c = c < 128

-- the characters of bytes
abbrev pub characters : List ℕ → List ℕ
characters bytes = map char_of bytes

-- the total of the characters modulo 4096
abbrev pub sum_of : List ℕ → ℕ
sum_of x = sum x % 4096

-- a sum as three characters, four bits each, the highest first
abbrev pub written : ℕ → List ℕ
written n = (48 + n / 256) ∷ (48 + n / 16 % 16) ∷ (48 + n % 16) ∷ []

-- the character of an end
abbrev pub end_char : End → ℕ
end_char Etx = etx
end_char Etb = etb
end_char Us = us
