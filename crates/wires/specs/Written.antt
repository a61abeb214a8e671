-- What an object that is written to holds.
use Rattle.std.specs.Prelude.{◌≡◌, ℕ, ◌+◌, ◌≤◌, Bool, List, ◌++◌, length, take, Result, Ok, Err, IsOk, IsTrue}
use Rattle.wires.specs.Causes.{HasCause}
use Rattle.wires.specs.Held.{Held}

-- what an object tells that bytes or bits are written to
pub record Written (A : Type 0) : Type 0 where
  -- whether it tells its content: what was written, the room and whether it is steady, which mean nothing where it does not
  pub tells : Bool
  pub held : List A
  -- how much more can be written
  pub room : ℕ
  -- no write that fits in the room fails
  pub steady : Bool
  pub faults : ℕ
  pub lent : List Held

-- a prefix of the piece was appended
abbrev pub AppendsFront : {A : Type 0} → List A → List A → List A → Type 0
AppendsFront old new piece = (n : ℕ) × (n ≤ length piece) × (new ≡ old ++ take n piece)

-- the piece was appended, or after Failed a prefix of it
abbrev pub Appends : {A T E : Type 0} → List A → List A → List A → Result T E → Type 0
Appends old new piece (Ok _) = new ≡ old ++ piece
Appends old new piece (Err _) = AppendsFront old new piece

-- a write of a piece: it appends the piece, lowers the room by what it appended, and fails in no steady object that has room for it
pub record Puts {A T E : Type 0} (old new : Written A) (piece : List A) (result : Result T E) : Type 0 where
  pub tells : new.tells ≡ old.tells
  pub held : IsTrue old.tells → Appends old.held new.held piece result
  pub room : IsTrue old.tells → new.room + length new.held ≡ old.room + length old.held
  pub steady : IsTrue old.tells → IsTrue old.steady → length piece ≤ old.room → IsOk result × IsTrue new.steady
  pub faults : HasCause old.faults new.faults result
  pub lent : new.lent ≡ old.lent
