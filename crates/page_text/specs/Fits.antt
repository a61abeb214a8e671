-- Which texts fit a function.
use Rattle.std.specs.Prelude.{◌≡◌, ◌≢◌, ℕ, ◌≤◌, ◌⊎◌, List, [], ◌∷◌, ◌++◌, length, All, Contains}
use Rattle.codeword.specs.declared.functions.Function.{Function}
use Rattle.codeword.specs.declared.functions.Function.TheVariants.{Numeric, Tone1, Tone2, Alpha}
use Rattle.page_text.specs.declared.limits.TheConstants.{LONGEST_NUMERIC, LONGEST_TEXT}
use Rattle.page_text.specs.Groups.{numeric_characters}

-- no more numeric characters than the limit, the last of which isn't a space
pub record FitsNumeric (text : List ℕ) : Type 0 where
  pub short : length text ≤ LONGEST_NUMERIC
  pub alphabet : All (Contains numeric_characters) text
  pub no_space : (front : List ℕ) → text ≢ front ++ 32 ∷ []

-- a printable character, CR or LF
abbrev pub IsAlpha : ℕ → Type 0
IsAlpha c = ((32 ≤ c) × (c ≤ 126)) ⊎ ((c ≡ 13) ⊎ (c ≡ 10))

-- no more of these than the limit
pub record FitsAlpha (text : List ℕ) : Type 0 where
  pub short : length text ≤ LONGEST_TEXT
  pub alphabet : All IsAlpha text

-- a tone has an empty text
abbrev pub Fits : Function → List ℕ → Type 0
Fits Numeric text = FitsNumeric text
Fits Tone1 text = text ≡ []
Fits Tone2 text = text ≡ []
Fits Alpha text = FitsAlpha text
