-- Why a text doesn't fit a function.
use Rattle.std.specs.Prelude.{◌≡◌, ◌≢◌, ℕ, ◌<◌, List, [], ◌∷◌, ◌++◌, All, Contains, Result, Ok, Err}
use Rattle.std.specs.Prelude.{length}
use Rattle.codeword.specs.declared.functions.Function.{Function}
use Rattle.codeword.specs.declared.functions.Function.TheVariants.{Numeric, Tone1, Tone2, Alpha}
use Rattle.page_text.specs.declared.limits.TheConstants.{LONGEST_NUMERIC, LONGEST_TEXT}
use Rattle.page_text.specs.declared.faults.TextFault.{TextFault}
use Rattle.page_text.specs.declared.faults.TextFault.TheVariants.{NotEmpty, TooLong, Alphabet, EndsInSpace}
use Rattle.page_text.specs.Groups.{numeric_characters}
use Rattle.page_text.specs.Fits.{IsAlpha, Fits}

-- a tone with a text
abbrev pub IsToneWithText : Function → List ℕ → Type 0
IsToneWithText Numeric text = ⊥
IsToneWithText Tone1 text = text ≢ []
IsToneWithText Tone2 text = text ≢ []
IsToneWithText Alpha text = ⊥

-- more characters than the limit of the function
abbrev pub IsTooLong : Function → List ℕ → Type 0
IsTooLong Numeric text = LONGEST_NUMERIC < length text
IsTooLong Tone1 text = ⊥
IsTooLong Tone2 text = ⊥
IsTooLong Alpha text = LONGEST_TEXT < length text

-- a character outside the alphabet
abbrev pub IsForeign : Function → List ℕ → Type 0
IsForeign Numeric text = ¬ All (Contains numeric_characters) text
IsForeign Tone1 text = ⊥
IsForeign Tone2 text = ⊥
IsForeign Alpha text = ¬ All IsAlpha text

-- a numeric text that ends in a space
abbrev pub IsBlankAtEnd : Function → List ℕ → Type 0
IsBlankAtEnd Numeric text = (front : List ℕ) × (text ≡ front ++ 32 ∷ [])
IsBlankAtEnd Tone1 text = ⊥
IsBlankAtEnd Tone2 text = ⊥
IsBlankAtEnd Alpha text = ⊥

-- the fault is there
abbrev pub Applies : Function → List ℕ → TextFault → Type 0
Applies function text NotEmpty = IsToneWithText function text
Applies function text TooLong = IsTooLong function text
Applies function text Alphabet = IsForeign function text
Applies function text EndsInSpace = IsBlankAtEnd function text

-- the order in which faults are looked for
abbrev pub rank : TextFault → ℕ
rank NotEmpty = 0
rank TooLong = 1
rank Alphabet = 2
rank EndsInSpace = 3

-- the fault is there, and none that comes before it
pub record IsFirstFault (function : Function) (text : List ℕ) (fault : TextFault) : Type 0 where
  pub applies : Applies function text fault
  pub first : (earlier : TextFault) → rank earlier < rank fault → ¬ Applies function text earlier

-- a text is judged to fit, or by its first fault
abbrev pub IsJudged : Function → List ℕ → Result Unit TextFault → Type 0
IsJudged function text (Ok _) = Fits function text
IsJudged function text (Err fault) = IsFirstFault function text fault
