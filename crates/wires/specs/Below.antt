-- What a type leaves of the object below it that it works on.
use Rattle.std.specs.Prelude.{◌≡◌, ◌≢◌, ℕ, ◌+◌, ◌≤◌, ◌&&◌, nat_eq, List, [], length, bytes_eq, if◌then◌else◌, Result, IsOk, IsTrue}
use Rattle.wires.specs.Causes.{HasCause}
use Rattle.wires.specs.Files.{Files, SameAt}
use Rattle.wires.specs.Held.{Connection, OtherFiles, OtherLine}
use Rattle.wires.specs.Line.{KeepsHeard, Line, last}
use Rattle.wires.specs.Written.{Appends}

-- a shelf but for the bytes and the room of one file
abbrev pub other_files : List ℕ → Files → OtherFiles
other_files name s = record {
  there = s.there;
  file = λ other. if bytes_eq other name then [] else s.file other;
  fresh = s.fresh;
  room = λ other. if bytes_eq other name then 0 else s.room other;
  fresh_room = s.fresh_room;
  further = s.further;
}

-- all of a shelf is as it was but the bytes and the room of one file, and whether it is steady
pub record KeepsBeside (old new : Files) (name : List ℕ) : Type 0 where
  pub others : (other : List ℕ) → other ≢ name → SameAt old new other
  pub there : new.there name ≡ old.there name
  pub fresh : new.fresh name ≡ old.fresh name
  pub fresh_room : new.fresh_room ≡ old.fresh_room
  pub further : new.further ≡ old.further
  pub lent : new.lent ≡ old.lent

-- a connection without what was said
abbrev pub quiet : Connection → Connection
quiet c = record { heard = c.heard; rest = c.rest; said = []; turns = c.turns; room = 0 }

-- a wire but for what is said on the open connection, its room, and the count of say faults
abbrev pub other_line : Line → OtherLine
other_line l = record {
  count = l.count;
  connection = λ k. if l.is_open && nat_eq k (last l) then quiet (l.connection k) else l.connection k;
  opened = l.opened;
  is_open = l.is_open;
  asked = l.asked;
  gate = l.gate;
  hear = l.hear;
  hang = l.hang;
}

-- all of a wire is as it was but what is said on the open connection and its room, the count of say faults, and whether it is steady
pub record KeepsAround (old new : Line) : Type 0 where
  pub count : new.count ≡ old.count
  pub others : (k : ℕ) → (IsTrue old.is_open → k ≢ last old) → new.connection k ≡ old.connection k
  pub heard : IsTrue old.is_open → KeepsHeard (old.connection (last old)) (new.connection (last old))
  pub opened : new.opened ≡ old.opened
  pub is_open : new.is_open ≡ old.is_open
  pub asked : new.asked ≡ old.asked
  pub gate : new.gate ≡ old.gate
  pub hear : new.hear ≡ old.hear
  pub hang : new.hang ≡ old.hang
  pub lent : new.lent ≡ old.lent

-- a piece was written to the open connection, in one call or in several, and all around it stays
pub record Speaks {T E : Type 0} (old new : Line) (piece : List ℕ) (result : Result T E) : Type 0 where
  pub tells : new.tells ≡ old.tells
  pub around : KeepsAround old new
  pub said : IsTrue old.tells → Appends (old.connection (last old)).said (new.connection (last old)).said piece result
  pub room : IsTrue old.tells → (new.connection (last old)).room + length (new.connection (last old)).said ≡ (old.connection (last old)).room + length (old.connection (last old)).said
  pub steady : IsTrue old.tells → IsTrue old.steady → IsTrue old.is_open → length piece ≤ (old.connection (last old)).room → IsOk result × IsTrue new.steady
  pub cause : HasCause old.say new.say result
