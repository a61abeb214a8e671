-- How texts are judged.
use Rattle.std.proofs.Common.{◌≡◌, ℕ, ◌<◌, ◌⊎◌, inl, inr, List, refl, ap, subst, arith, Result, Ok, Err}
use Rattle.std.specs.Prelude.{◌↔◌, IsOk}
use Rattle.codeword.specs.declared.functions.Function.{Function}
use Rattle.codeword.specs.declared.functions.Function.TheVariants.{Numeric, Tone1, Tone2, Alpha}
use Rattle.page_text.specs.declared.faults.TextFault.{TextFault}
use Rattle.page_text.specs.declared.faults.TextFault.TheVariants.{NotEmpty, TooLong, Alphabet, EndsInSpace}
use Rattle.page_text.specs.Fits.{Fits}
use Rattle.page_text.specs.Faults.{Applies, IsFirstFault, IsJudged, rank}

-- a text that fits has no fault
pub fits-no_fault : (function : Function) (text : List ℕ) (fault : TextFault) → Fits function text → Applies function text fault → ⊥
fits-no_fault Numeric text NotEmpty fits fault = fault
fits-no_fault Numeric text TooLong fits fault = omega (arith, fits.short, fault)
fits-no_fault Numeric text Alphabet fits fault = fault fits.alphabet
fits-no_fault Numeric text EndsInSpace fits fault = fits.no_space fault.0 fault.1
fits-no_fault Tone1 text NotEmpty fits fault = fault fits
fits-no_fault Tone1 text TooLong fits fault = fault
fits-no_fault Tone1 text Alphabet fits fault = fault
fits-no_fault Tone1 text EndsInSpace fits fault = fault
fits-no_fault Tone2 text NotEmpty fits fault = fault fits
fits-no_fault Tone2 text TooLong fits fault = fault
fits-no_fault Tone2 text Alphabet fits fault = fault
fits-no_fault Tone2 text EndsInSpace fits fault = fault
fits-no_fault Alpha text NotEmpty fits fault = fault
fits-no_fault Alpha text TooLong fits fault = omega (arith, fits.short, fault)
fits-no_fault Alpha text Alphabet fits fault = fault fits.alphabet
fits-no_fault Alpha text EndsInSpace fits fault = fault

-- faults of one rank are the same
rank-same : (a b : TextFault) → rank a ≡ rank b → a ≡ b
rank-same NotEmpty NotEmpty e = refl
rank-same NotEmpty TooLong e = absurd (omega (arith, e))
rank-same NotEmpty Alphabet e = absurd (omega (arith, e))
rank-same NotEmpty EndsInSpace e = absurd (omega (arith, e))
rank-same TooLong NotEmpty e = absurd (omega (arith, e))
rank-same TooLong TooLong e = refl
rank-same TooLong Alphabet e = absurd (omega (arith, e))
rank-same TooLong EndsInSpace e = absurd (omega (arith, e))
rank-same Alphabet NotEmpty e = absurd (omega (arith, e))
rank-same Alphabet TooLong e = absurd (omega (arith, e))
rank-same Alphabet Alphabet e = refl
rank-same Alphabet EndsInSpace e = absurd (omega (arith, e))
rank-same EndsInSpace NotEmpty e = absurd (omega (arith, e))
rank-same EndsInSpace TooLong e = absurd (omega (arith, e))
rank-same EndsInSpace Alphabet e = absurd (omega (arith, e))
rank-same EndsInSpace EndsInSpace e = refl

-- one number is below another, or they are the same, or the other is below it
orders : (m n : ℕ) → (m < n) ⊎ ((m ≡ n) ⊎ (n < m))
orders m n = grind arith

-- a text has one first fault
pub first_fault-same : (function : Function) (text : List ℕ) (a b : TextFault) → IsFirstFault function text a → IsFirstFault function text b → a ≡ b
first_fault-same function text a b first second =
    elim (orders (rank a) (rank b)) [
      | inl l ↦ absurd (second.first a l first.applies)
      | inr (inl e) ↦ rank-same a b e
      | inr (inr l) ↦ absurd (first.first b l second.applies)
    ]

-- it fits exactly where it is judged so
pub judged-fits : (function : Function) (text : List ℕ) (result : Result Unit TextFault) → IsJudged function text result → IsOk result ↔ Fits function text
judged-fits function text (Ok u) judged = (λ _. judged, λ _. refl)
judged-fits function text (Err fault) judged = (λ e. absurd (cc), λ fits. absurd (fits-no_fault function text fault fits judged.applies))

-- a fault is its first exactly where it is judged so
pub judged-faults : (function : Function) (text : List ℕ) (result : Result Unit TextFault) → IsJudged function text result
    → (fault : TextFault) → (result ≡ Err fault) ↔ IsFirstFault function text fault
judged-faults function text (Ok u) judged fault = (λ e. absurd (cc), λ first. absurd (fits-no_fault function text fault judged first.applies))
judged-faults function text (Err own) judged fault = (
  λ e. let same : own ≡ fault = cc in subst (IsFirstFault function text) same judged,
  λ first. ap Err (first_fault-same function text own fault judged first),
)
