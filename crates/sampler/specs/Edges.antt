-- Where samples change.
use Rattle.std.specs.Prelude.{Bool, List, [], ◌∷◌}
use Rattle.bits.specs.Bits.{xor}

-- for each sample whether it differs from the one before it, of which the first comes after this last one
abbrev pub changes : Bool → List Bool → List Bool
changes last [] = []
changes last (s ∷ samples) = xor last s ∷ changes s samples
