-- What both protocols take for a character.
use Rattle.std.specs.Prelude.{ℕ, ◌%◌}

-- line feed
abbrev pub lf : ℕ
lf = 10

-- carriage return
abbrev pub cr : ℕ
cr = 13

-- space
abbrev pub space : ℕ
space = 32

-- a byte stands for its low seven bits
abbrev pub char_of : ℕ → ℕ
char_of byte = byte % 128

-- the character of this number in a session that is still open ends it
abbrev pub last_character : ℕ
last_character = 1000000
