-- Bits that were listened to, and what was printed of them.
use Rattle.std.specs.Prelude.{◌≡◌, ◌≢◌, ℕ, ◌+◌, ◌*◌, ◌≤◌, ◌<◌, Bool, List, [], ◌∷◌, ◌++◌, length, take, Result, Ok, Err, IsTrue}
use Rattle.wires.specs.Fronts.{IsFront}
use Rattle.wires.specs.Causes.{Rose}
use Rattle.wires.specs.Left.{Left, Took}
use Rattle.wires.specs.Pieces.{taken_of}
use Rattle.wires.specs.Written.{Written, Puts}
use Rattle.endings.specs.declared.statuses.Status.{Status}
use Rattle.endings.specs.declared.statuses.Status.TheVariants.{Done, FileFault, OutFault, TooLong}
use Rattle.endings.specs.Wrote.{FitFor, StaysWell, Wrote, WroteFront}

-- of 67,108,864 bytes so many bits are listened to
abbrev pub most_bits : ℕ
most_bits = 8 * 67108864

-- The next bits print this piece more.
pub record Prints {T E : Type 0} (printed : List Bool → List ℕ) (bits next : List Bool) (old new : Written ℕ) (result : Result T E) : Type 0 where
  pub piece : List ℕ
  pub more : printed (bits ++ next) ≡ printed bits ++ piece
  pub put : Puts old new piece result

-- the bits of a piece of which it was put what they give: those that were taken, or after Failed all, of which a front was put
abbrev pub put_of : {T E : Type 0} → Result T E → List Bool → List Bool → List Bool
put_of (Ok _) old new = taken_of old new
put_of (Err _) old new = old

-- A read failed after these bits, and a fault was counted, which no steady source has.
pub record FailedAfter (old new : Left Bool) (bits : List Bool) : Type 0 where
  pub tells : new.tells ≡ old.tells
  pub left : IsTrue old.tells → old.left ≡ bits ++ new.left
  pub unsteady : IsTrue old.tells → IsTrue old.steady → ⊥
  pub faults : Rose old.faults new.faults
  pub lent : new.lent ≡ old.lent

-- All bits were read, from what was there, and what they give was printed.
pub record ListenedToAll (printed : List Bool → List ℕ) (old new : Left Bool) (out0 out : Written ℕ) : Type 0 where
  pub bits : List Bool
  pub took : Took old new bits
  pub there : IsTrue old.tells → IsTrue old.there
  pub whole : IsTrue old.tells → new.left ≡ []
  pub few : length bits ≤ most_bits
  pub wrote : Wrote out0 out (printed bits)

-- As many bits were read as are listened to, from what was there, and a further one follows. What they give was printed.
pub record ListenedTooLong (printed : List Bool → List ℕ) (old new : Left Bool) (out0 out : Written ℕ) : Type 0 where
  pub bits : List Bool
  pub further : Bool
  pub took : Took old new (bits ++ further ∷ [])
  pub there : IsTrue old.tells → IsTrue old.there
  pub many : length bits ≡ most_bits
  pub wrote : Wrote out0 out (printed bits)

-- A read failed, and what the bits before it give was printed, which is a front of what all bits give that are to be listened to. Where
-- there are any, they were read from what was there.
pub record ListenedToFault (printed : List Bool → List ℕ) (old new : Left Bool) (out0 out : Written ℕ) : Type 0 where
  pub bits : List Bool
  pub failed : FailedAfter old new bits
  pub there : IsTrue old.tells → bits ≢ [] → IsTrue old.there
  pub wrote : Wrote out0 out (printed bits)
  pub few : length bits ≤ most_bits
  pub of_all : IsTrue old.tells → IsFront (printed bits) (printed (take most_bits old.left))

-- A write failed, after a front of what the bits give that were read, from what was there. That is a front of what all bits give that are
-- to be listened to, and no steady sink with room for all of that fails.
pub record ListenedUnheard (printed : List Bool → List ℕ) (old new : Left Bool) (out0 out : Written ℕ) : Type 0 where
  pub bits : List Bool
  pub took : Took old new bits
  pub there : IsTrue old.tells → IsTrue old.there
  pub few : length bits ≤ most_bits
  pub wrote : WroteFront out0 out (printed bits)
  pub of_all : IsTrue old.tells → WroteFront out0 out (printed (take most_bits old.left))

-- What was listened to and printed, by status. `printed` says what a list of bits gives.
abbrev pub HasListened : (List Bool → List ℕ) → Left Bool → Left Bool → Written ℕ → Written ℕ → Status → Type 0
HasListened printed old new out0 out Done = ListenedToAll printed old new out0 out
HasListened printed old new out0 out TooLong = ListenedTooLong printed old new out0 out
HasListened printed old new out0 out FileFault = ListenedToFault printed old new out0 out
HasListened printed old new out0 out OutFault = ListenedUnheard printed old new out0 out
HasListened printed old new out0 out other = ⊥

-- Over a steady output with room for what all bits give that are to be listened to, no write failed, and the output is steady.
abbrev pub OutWell : (List Bool → List ℕ) → Left Bool → Written ℕ → Written ℕ → Status → Type 0
OutWell printed bits out0 out status = IsTrue bits.tells → FitFor out0 (printed (take most_bits bits.left)) → (status ≢ OutFault) × StaysWell out0 out

-- Listening is under way: these bits were read, and what they give was printed. So many bits more are listened to.
pub record ListeningTo (printed : List Bool → List ℕ) (old now : Left Bool) (out0 out : Written ℕ) (to_come : ℕ) : Type 0 where
  pub bits : List Bool
  pub took : Took old now bits
  pub there : IsTrue old.tells → 0 < length bits → IsTrue old.there
  pub many : length bits + to_come ≡ most_bits
  pub wrote : Wrote out0 out (printed bits)
