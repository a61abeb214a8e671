-- Which texts fit a function, as a test that computes.
use Rattle.std.specs.Prelude.{ℕ, ◌==◌, nat_eq, nat_le, Bool, false, ◌&&◌, ◌||◌, not, List, [], ◌∷◌, length}
use Rattle.std.specs.List.{list_all, list_any}
use Rattle.codeword.specs.declared.functions.Function.{Function}
use Rattle.codeword.specs.declared.functions.Function.TheVariants.{Numeric, Tone1, Tone2, Alpha}
use Rattle.page_text.specs.declared.limits.TheConstants.{LONGEST_NUMERIC, LONGEST_TEXT}
use Rattle.page_text.specs.Groups.{numeric_characters}

-- a numeric character
abbrev pub is_numeric : ℕ → Bool
is_numeric c = list_any (nat_eq c) numeric_characters

-- a printable character, CR or LF
abbrev pub is_alpha : ℕ → Bool
is_alpha c = (nat_le 32 c && nat_le c 126) || ((c == 13) || (c == 10))

-- the last character is a space
abbrev pub ends_in_space : List ℕ → Bool
ends_in_space [] = false
ends_in_space (c ∷ []) = c == 32
ends_in_space (c ∷ d ∷ x) = ends_in_space (d ∷ x)

-- the text fits the function (`Fits` of the texts)
abbrev pub fits : Function → List ℕ → Bool
fits Numeric text = nat_le (length text) LONGEST_NUMERIC && (list_all is_numeric text && not (ends_in_space text))
fits Tone1 text = length text == 0
fits Tone2 text = length text == 0
fits Alpha text = nat_le (length text) LONGEST_TEXT && list_all is_alpha text
