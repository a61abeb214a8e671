-- The calls of a fake in memory, and which of them fail.
use Rattle.std.specs.Prelude.{◌≡◌, ℕ, ◌+◌, ◌&&◌, nat_le, nat_eq, Bool, true, List, [], ◌∷◌, Result, OnOk, OnErr}
use Rattle.std.specs.List.{list_any}
use Rattle.wires.specs.Causes.{next_count}

-- the numbers, from 1, of the calls that fail; how many calls were made; how many of them failed
pub record CallsMade : Type 0 where
  pub failing : List ℕ
  pub made : ℕ
  pub faults : ℕ

-- calls of which none was made
abbrev pub no_calls : List ℕ → CallsMade
no_calls failing = record { failing = failing; made = 0; faults = 0 }

-- whether none of the numbers is still to come after so many calls
abbrev pub none_to_come : List ℕ → ℕ → Bool
none_to_come [] made = true
none_to_come (n ∷ ns) made = nat_le n made && none_to_come ns made

-- no call that is still to be made stands among those that fail
abbrev pub is_steady : CallsMade → Bool
is_steady calls = none_to_come calls.failing calls.made

-- whether the number of the next call stands among those that fail
abbrev pub next_fails : CallsMade → Bool
next_fails calls = list_any (λ n. nat_eq n (calls.made + 1)) calls.failing

-- one call more was made, and a fault counted exactly where it failed
pub record Counts {T E : Type 0} (old new : CallsMade) (result : Result T E) : Type 0 where
  pub failing : new.failing ≡ old.failing
  pub made : new.made ≡ next_count old.made
  pub kept : OnOk result (new.faults ≡ old.faults)
  pub fault : OnErr result (new.faults ≡ next_count old.faults)
