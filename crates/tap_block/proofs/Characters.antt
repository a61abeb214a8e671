-- The characters of bytes, one after another.
use Rattle.std.proofs.Common.{◌≡◌, ℕ, List, [], ◌∷◌, ◌++◌}
use Rattle.std.proofs.lemmas.List.{map-append}
use Rattle.entry_line.specs.Chars.{char_of}
use Rattle.tap_block.specs.Chars.{characters}

-- the characters of one byte more
pub characters_on : (bytes : List ℕ) (byte : ℕ) → characters (bytes ++ byte ∷ []) ≡ characters bytes ++ char_of byte ∷ []
characters_on bytes byte = map-append char_of bytes (byte ∷ [])
