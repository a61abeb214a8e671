-- What reading the front of the input does.
use Rattle.std.specs.Prelude.{◌≡◌, ℕ, ◌≤◌, ◌<◌, List, [], length, take, Result, IfOk, IsOk, OnErr, IsTrue}
use Rattle.wires.specs.Causes.{Rose}
use Rattle.wires.specs.Left.{Left, Took}

-- The first bytes that were left stand in the front of the buffer. Where they don't fill it, no more were left.
pub record ReadsFront {E : Type 0} (old new : Left ℕ) (buffer : List ℕ) (result : Result ℕ E) : Type 0 where
  pub within : IfOk result (λ n. n ≤ length buffer)
  pub took : IfOk result (λ n. Took old new (take n buffer))
  pub whole : IsTrue old.tells → IfOk result (λ n. n < length buffer → new.left ≡ [])
  pub steady : IsTrue old.tells → IsTrue old.steady → IsOk result
  pub failed : OnErr result (Rose old.faults new.faults)
  pub tells : new.tells ≡ old.tells
  pub lent : new.lent ≡ old.lent
