-- Receivers as pairs of a number and a capcode.
use Rattle.std.specs.Prelude.{ℕ, suc, List, [], ◌∷◌, ◌++◌, map}

-- a receiver's number, paired with each of its capcodes
abbrev pub paired_with : ℕ → List ℕ → List (ℕ × ℕ)
paired_with number capcodes = map (λ capcode. (number, capcode)) capcodes

-- the pairs of receivers that are numbered from a number on, in their order
abbrev pub pairs_from : ℕ → List (List ℕ) → List (ℕ × ℕ)
pairs_from number [] = []
pairs_from number (capcodes ∷ receivers) = paired_with number capcodes ++ pairs_from (suc number) receivers
