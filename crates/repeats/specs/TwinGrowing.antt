-- Of longer bits no less is heard twice, and what was heard stays. docs/profile.md, "repeated transmission".
use Rattle.std.specs.Prelude.{ℕ, Bool}
use Rattle.wires.specs.Fronts.{Grows}
use Rattle.repeats.specs.Twin.{heard_twice}

-- the pages that are heard twice in bits begin with those that are heard twice in each front of them
abbrev pub TwicePagesGrow : Type 0
TwicePagesGrow = (listens : ℕ → Bool) → Grows (heard_twice listens)
