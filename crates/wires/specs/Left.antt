-- What an object that is read from has left.
use Rattle.std.specs.Prelude.{◌≡◌, ℕ, ◌≤◌, ◌↔◌, Bool, List, [], ◌∷◌, ◌++◌, length, take, Result, Ok, Err, Option, Some, None, IsOk, IsTrue, IfOk, OnOk}
use Rattle.wires.specs.Causes.{HasCause}
use Rattle.wires.specs.Held.{Held}

-- what an object tells that bytes or bits are read from
pub record Left (A : Type 0) : Type 0 where
  -- whether it tells its content: what is left, whether there is anything to read from and whether it is steady, which mean nothing where it does not
  pub tells : Bool
  pub left : List A
  -- whether there is anything to read from. Where there is not, each read fails
  pub there : Bool
  -- no read fails
  pub steady : Bool
  pub faults : ℕ
  pub lent : List Held

-- the first n of what was left came out at the front of the buffer, and none exactly where none was left. After Failed nothing came out
abbrev pub Consumes : {A E : Type 0} → List A → List A → List A → Result ℕ E → Type 0
Consumes old new buffer (Ok n) = (old ≡ take n buffer ++ new) × ((n ≡ 0) ↔ (old ≡ []))
Consumes old new buffer (Err _) = new ≡ old

-- a read into a buffer, which fails in no steady object
pub record Takes {A E : Type 0} (old new : Left A) (buffer : List A) (result : Result ℕ E) : Type 0 where
  pub tells : new.tells ≡ old.tells
  pub within : IfOk result (λ n. n ≤ length buffer)
  pub left : IsTrue old.tells → Consumes old.left new.left buffer result
  -- no read makes anything be there, and an answer comes only where something is there
  pub there : IsTrue old.tells → IsTrue new.there → IsTrue old.there
  pub came : IsTrue old.tells → OnOk result (IsTrue old.there)
  pub steady : IsTrue old.tells → IsTrue old.steady → IsOk result × IsTrue new.steady
  pub faults : HasCause old.faults new.faults result
  pub lent : new.lent ≡ old.lent

-- the first of what was left came out, or None where none was left. After Failed nothing came out
abbrev pub Pops : {A E : Type 0} → List A → List A → Result (Option A) E → Type 0
Pops old new (Ok (Some x)) = old ≡ x ∷ new
Pops old new (Ok None) = (old ≡ []) × (new ≡ [])
Pops old new (Err _) = new ≡ old

-- a read of one, which fails in no steady object
pub record TakesOne {A E : Type 0} (old new : Left A) (result : Result (Option A) E) : Type 0 where
  pub tells : new.tells ≡ old.tells
  pub left : IsTrue old.tells → Pops old.left new.left result
  -- no read makes anything be there, and an answer comes only where something is there
  pub there : IsTrue old.tells → IsTrue new.there → IsTrue old.there
  pub came : IsTrue old.tells → OnOk result (IsTrue old.there)
  pub steady : IsTrue old.tells → IsTrue old.steady → IsOk result × IsTrue new.steady
  pub faults : HasCause old.faults new.faults result
  pub lent : new.lent ≡ old.lent

-- the first of what was left came out, and nothing only where nothing was left. After Failed nothing came out
abbrev pub PopsSome : {A E : Type 0} → List A → List A → Result (List A) E → Type 0
PopsSome old new (Ok piece) = (old ≡ piece ++ new) × (piece ≡ [] → old ≡ [])
PopsSome old new (Err _) = new ≡ old

-- a read of some, at most so many, which fails in no steady object
pub record TakesPiece {A E : Type 0} (most : ℕ) (old new : Left A) (result : Result (List A) E) : Type 0 where
  pub tells : new.tells ≡ old.tells
  pub few : IfOk result (λ piece. length piece ≤ most)
  pub left : IsTrue old.tells → PopsSome old.left new.left result
  -- no read makes anything be there, and an answer comes only where something is there
  pub there : IsTrue old.tells → IsTrue new.there → IsTrue old.there
  pub came : IsTrue old.tells → OnOk result (IsTrue old.there)
  pub steady : IsTrue old.tells → IsTrue old.steady → IsOk result × IsTrue new.steady
  pub faults : HasCause old.faults new.faults result
  pub lent : new.lent ≡ old.lent

-- some reads, none of which failed, took this
pub record Took {A : Type 0} (old new : Left A) (taken : List A) : Type 0 where
  pub tells : new.tells ≡ old.tells
  pub left : IsTrue old.tells → old.left ≡ taken ++ new.left
  -- what is there after them was there before
  pub there : IsTrue old.tells → IsTrue new.there → IsTrue old.there
  pub steady : IsTrue old.tells → IsTrue old.steady → IsTrue new.steady
  pub faults : new.faults ≡ old.faults
  pub lent : new.lent ≡ old.lent
