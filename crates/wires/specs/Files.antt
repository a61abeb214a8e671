-- What a shelf of files holds.
use Rattle.std.specs.Prelude.{◌≡◌, ◌≢◌, ℕ, ◌+◌, ◌<◌, ◌≤◌, ◌^◌, ◌↔◌, ◌⊎◌, Bool, List, [], length, take, drop, Result, IsOk, OnOk, OnErr, IfOk, IsTrue, IsFalse}
use Rattle.wires.specs.Causes.{HasCause}
use Rattle.wires.specs.Held.{Held, OtherFiles}
use Rattle.wires.specs.Written.{Appends}

-- what a shelf tells. A name is its bytes
pub record Files : Type 0 where
  -- whether it tells its content: all that stands here but faults and lent, which means nothing where it does not
  pub tells : Bool
  -- which names are there, and their bytes
  pub there : List ℕ → Bool
  pub file : List ℕ → List ℕ
  -- which names were made fresh, and how many more bytes each takes
  pub fresh : List ℕ → Bool
  pub room : List ℕ → ℕ
  -- the room that a fresh file gets, and whether a further file may be added
  pub fresh_room : ℕ
  pub further : Bool
  -- no proper call fails
  pub steady : Bool
  pub faults : ℕ
  pub lent : List Held

-- the longest name, in bytes, that a further file may have
abbrev pub longest_name : ℕ
longest_name = 255

-- all of a shelf's files
abbrev pub all_files : Files → OtherFiles
all_files s = record { there = s.there; file = s.file; fresh = s.fresh; room = s.room; fresh_room = s.fresh_room; further = s.further }

-- nothing changed at this name
pub record SameAt (old new : Files) (name : List ℕ) : Type 0 where
  pub there : new.there name ≡ old.there name
  pub file : new.file name ≡ old.file name
  pub fresh : new.fresh name ≡ old.fresh name
  pub room : new.room name ≡ old.room name

-- a call on one name: all other names stay, whatever it answers
pub record Touches {T E : Type 0} (old new : Files) (name : List ℕ) (result : Result T E) : Type 0 where
  pub tells : new.tells ≡ old.tells
  pub others : (other : List ℕ) → other ≢ name → SameAt old new other
  pub fresh_room : new.fresh_room ≡ old.fresh_room
  pub faults : HasCause old.faults new.faults result
  pub lent : new.lent ≡ old.lent

-- a read of a file from a place on, into a buffer: it answers 0 exactly where the file ends at or before that place, and no file changes, whatever it answers
pub record ReadsAt {E : Type 0} (old new : Files) (name : List ℕ) (from : ℕ) (buffer : List ℕ) (result : Result ℕ E) : Type 0 where
  pub tells : new.tells ≡ old.tells
  pub files : all_files new ≡ all_files old
  pub within : IfOk result (λ n. n ≤ length buffer)
  pub there : IsTrue old.tells → OnOk result (IsTrue (old.there name))
  pub bytes : IsTrue old.tells → IfOk result (λ n. (take n buffer ≡ take n (drop from (old.file name))) × (n ≤ length (drop from (old.file name))))
  pub at_end : IsTrue old.tells → IfOk result (λ n. (n ≡ 0) ↔ (length (old.file name) ≤ from))
  -- a file that is read has fewer than 2 ^ 64 bytes, so that a place in it is a number of 64 bits
  pub size : IsTrue old.tells → OnOk result (length (old.file name) < 2 ^ 64)
  pub steady : IsTrue old.tells → IsTrue old.steady → IsTrue (old.there name) → IsOk result × IsTrue new.steady
  pub faults : HasCause old.faults new.faults result
  pub lent : new.lent ≡ old.lent

-- a file is made fresh: it holds nothing and has the room of a fresh file, and a name that was not there used up the further file
pub record Freshens {T E : Type 0} (old new : Files) (name : List ℕ) (result : Result T E) : Type 0 where
  pub touches : Touches old new name result
  pub ok : IsTrue old.tells → OnOk result ((new.file name ≡ []) × IsTrue (new.there name) × IsTrue (new.fresh name) × (new.room name ≡ old.fresh_room))
  pub failed : IsTrue old.tells → OnErr result ((new.file name ≡ old.file name) ⊎ (new.file name ≡ []))
  pub there : IsTrue old.tells → IsTrue (old.there name) → IsTrue (new.there name)
  pub further : IsTrue old.tells → OnOk result (IsTrue (old.there name) → new.further ≡ old.further)
  pub used : IsTrue old.tells → OnOk result (IsFalse (old.there name) → IsTrue old.further × IsFalse new.further)
  pub steady : IsTrue old.tells → IsTrue old.steady → (IsTrue (old.there name) ⊎ (IsTrue old.further × (length name ≤ longest_name))) → IsOk result × IsTrue new.steady

-- a piece is appended to a file, whose room falls by what was appended
pub record AppendsTo {T E : Type 0} (old new : Files) (name : List ℕ) (piece : List ℕ) (result : Result T E) : Type 0 where
  pub touches : Touches old new name result
  pub bytes : IsTrue old.tells → Appends (old.file name) (new.file name) piece result
  pub there : new.there name ≡ old.there name
  pub fresh : new.fresh name ≡ old.fresh name
  pub room : IsTrue old.tells → new.room name + length (new.file name) ≡ old.room name + length (old.file name)
  pub further : new.further ≡ old.further
  pub steady : IsTrue old.tells → IsTrue old.steady → IsTrue (old.fresh name) → length piece ≤ old.room name → IsOk result × IsTrue new.steady
