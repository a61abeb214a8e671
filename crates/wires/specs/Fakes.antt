-- What fakes in memory tell, and exactly what their calls do.
use Rattle.std.specs.Prelude.{◌≡◌, ℕ, ◌+◌, ◌-◌, ◌<◌, ◌⊎◌, ◌↔◌, min, true, List, [], ◌++◌, length, take, drop, Result, IsErr, IfOk, OnOk, OnErr, IsTrue}
use Rattle.wires.specs.Calls.{CallsMade, Counts, is_steady, next_fails}
use Rattle.wires.specs.Left.{Left}
use Rattle.wires.specs.Written.{Written}

-- a source in memory: the bytes that are left, how many it gives at most in one call, and its calls
pub record SourceInMemory : Type 0 where
  pub left : List ℕ
  pub cut : ℕ
  pub calls : CallsMade

abbrev pub source_tells : SourceInMemory → Left ℕ
source_tells s = record { tells = true; left = s.left; there = true; steady = is_steady s.calls; faults = s.calls.faults; lent = [] }

-- how many bytes a read moves: as many as are left and the buffer has room for, and at most the cut
abbrev pub moved_by : SourceInMemory → List ℕ → ℕ
moved_by s buffer = min (min (length s.left) (length buffer)) s.cut

-- a read from a source in memory: it fails exactly where its number is one that fails
pub record TakesInMemory {E : Type 0} (old new : SourceInMemory) (buffer : List ℕ) (result : Result ℕ E) : Type 0 where
  pub cut : new.cut ≡ old.cut
  pub calls : Counts old.calls new.calls result
  pub fails : IsErr result ↔ IsTrue (next_fails old.calls)
  pub count : IfOk result (λ n. n ≡ moved_by old buffer)
  pub moved : IfOk result (λ n. (take n buffer ≡ take n old.left) × (new.left ≡ drop n old.left))
  pub failed : OnErr result (new.left ≡ old.left)

-- a sink in memory: the bytes that it holds, how many it holds at most, and its calls
pub record SinkInMemory : Type 0 where
  pub bytes : List ℕ
  pub room : ℕ
  pub calls : CallsMade

abbrev pub sink_tells : SinkInMemory → Written ℕ
sink_tells s = record { tells = true; held = s.bytes; room = s.room - length s.bytes; steady = is_steady s.calls; faults = s.calls.faults; lent = [] }

-- a write to a sink in memory: it fails exactly where its number is one that fails or the room would be passed, and then nothing was written
pub record PutsInMemory {T E : Type 0} (old new : SinkInMemory) (piece : List ℕ) (result : Result T E) : Type 0 where
  pub room : new.room ≡ old.room
  pub calls : Counts old.calls new.calls result
  pub fails : IsErr result ↔ (IsTrue (next_fails old.calls) ⊎ (old.room < length old.bytes + length piece))
  pub appended : OnOk result (new.bytes ≡ old.bytes ++ piece)
  pub failed : OnErr result (new.bytes ≡ old.bytes)
