-- Functions of pages, by number and by letter.
use Rattle.std.specs.Prelude.{ℕ}
use Rattle.codeword.specs.declared.functions.Function.{Function}
use Rattle.codeword.specs.declared.functions.Function.TheVariants.{Numeric, Tone1, Tone2, Alpha}

-- the two function bits of the address word, as a number
abbrev pub number_of : Function → ℕ
number_of Numeric = 0
number_of Tone1 = 1
number_of Tone2 = 2
number_of Alpha = 3

-- N, 1, 2, A
abbrev pub letter_of : Function → ℕ
letter_of Numeric = 78
letter_of Tone1 = 49
letter_of Tone2 = 50
letter_of Alpha = 65
