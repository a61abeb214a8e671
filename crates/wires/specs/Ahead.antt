-- Reads ahead, which take nothing of what is left.
use Rattle.std.specs.Prelude.{◌≡◌, Bool, List, [], Result, IsOk, IsTrue, IsFalse, IfOk, OnOk}
use Rattle.wires.specs.Causes.{HasCause}
use Rattle.wires.specs.Left.{Left}

-- a look whether one is left, which fails in no steady object
pub record Peeks {A E : Type 0} (old new : Left A) (result : Result Bool E) : Type 0 where
  pub tells : new.tells ≡ old.tells
  pub left : IsTrue old.tells → new.left ≡ old.left
  -- it makes nothing be there, and an answer comes only where something is there
  pub there : IsTrue old.tells → IsTrue new.there → IsTrue old.there
  pub came : IsTrue old.tells → OnOk result (IsTrue old.there)
  pub end : IsTrue old.tells → IfOk result (λ more. IsFalse more → old.left ≡ [])
  pub steady : IsTrue old.tells → IsTrue old.steady → IsOk result × IsTrue new.steady
  pub faults : HasCause old.faults new.faults result
  pub lent : new.lent ≡ old.lent

-- some of what is left is made ready: where nothing is ready after it, nothing was left. It fails in no steady object
pub record Fills {A T E : Type 0} (old new : Left A) (ready : List A) (result : Result T E) : Type 0 where
  pub tells : new.tells ≡ old.tells
  pub left : IsTrue old.tells → new.left ≡ old.left
  -- it makes nothing be there, and an answer comes only where something is there
  pub there : IsTrue old.tells → IsTrue new.there → IsTrue old.there
  pub came : IsTrue old.tells → OnOk result (IsTrue old.there)
  pub end : IsTrue old.tells → OnOk result (ready ≡ [] → old.left ≡ [])
  pub steady : IsTrue old.tells → IsTrue old.steady → IsOk result × IsTrue new.steady
  pub faults : HasCause old.faults new.faults result
  pub lent : new.lent ≡ old.lent
