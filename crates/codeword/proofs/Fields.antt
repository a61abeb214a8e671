-- The bits of address words and message words, in their places.
use Rattle.std.proofs.Common.{◌≡◌, ℕ, ◌+◌, ◌*◌, ◌%◌, ◌^◌, ◌<◌, arith, ◌∙◌, ap, bit_or, mod-eq_of_lt}
use Rattle.std.specs.Int.Bits.{or_shifted}
use Rattle.codeword.specs.declared.functions.Function.{Function}
use Rattle.codeword.specs.declared.functions.Function.TheVariants.{Numeric, Tone1, Tone2, Alpha}
use Rattle.codeword.specs.Functions.{number_of}

-- a function has two bits
pub number_of-lt : (f : Function) → number_of f < 4
number_of-lt Numeric = omega arith
number_of-lt Tone1 = omega arith
number_of-lt Tone2 = omega arith
number_of-lt Alpha = omega arith

-- `(high << 2) | number`
pub function_behind : (high number : ℕ) → high < 2 ^ 18 → number < 4 → bit_or (high * 4 % 4294967296) number ≡ high * 2 ^ 2 + number
function_behind high number h l = ap (λ (x : ℕ). bit_or x number) (mod-eq_of_lt (omega arith)) ∙ or_shifted high 2 number l

-- `MESSAGE | group`
pub group_behind : (group : ℕ) → group < 2 ^ 20 → bit_or (2 ^ 20) group ≡ 2 ^ 20 + group
group_behind group l = or_shifted 1 20 group l
