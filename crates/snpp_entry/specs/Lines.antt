-- Characters, the lines of a list of them, and the verb and the argument of a line.
use Rattle.entry_line.specs.Chars.{lf, cr, space}
use Rattle.std.specs.Prelude.{ℕ, ◌==◌, List, [], ◌∷◌, ◌++◌, flat_map, if◌then◌else◌, ◌≢◌, All}

-- A list of characters, cut after each LF: the pieces that an LF ends, without it, and what follows the last LF.
pub record Cut : Type 0 where
  pub pieces : List (List ℕ)
  pub rest : List ℕ

-- one character more
abbrev pub with_char : Cut → ℕ → Cut
with_char k c = if c == lf then record { pieces = k.pieces ++ k.rest ∷ []; rest = [] } else record { pieces = k.pieces; rest = k.rest ++ c ∷ [] }

-- further characters
abbrev pub cut_on : Cut → List ℕ → Cut
cut_on k [] = k
cut_on k (c ∷ x) = cut_on (with_char k c) x

-- no character
abbrev pub uncut : Cut
uncut = record { pieces = []; rest = [] }

-- the cut of a list
abbrev pub cut : List ℕ → Cut
cut x = cut_on uncut x

-- the line of a piece: without one CR at its end
abbrev pub without_cr : List ℕ → List ℕ
without_cr [] = []
without_cr (c ∷ []) = if c == cr then [] else c ∷ []
without_cr (c ∷ d ∷ x) = c ∷ without_cr (d ∷ x)

-- what stands before the first space
abbrev pub verb : List ℕ → List ℕ
verb [] = []
verb (c ∷ x) = if c == space then [] else c ∷ verb x

-- what follows the first space, or nothing
abbrev pub argument : List ℕ → List ℕ
argument [] = []
argument (c ∷ x) = if c == space then x else argument x

-- the pieces, each with an LF behind it, and the rest
abbrev pub rejoined : Cut → List ℕ
rejoined k = flat_map (λ piece. piece ++ lf ∷ []) k.pieces ++ k.rest

-- the character isn't in the list
abbrev pub HasNo : ℕ → List ℕ → Type 0
HasNo c x = All (λ d. d ≢ c) x
