-- The sessions that a station served on the connections of a wire, one after another, and what came of them.
use Rattle.std.specs.Prelude.{◌≡◌, ◌≢◌, ℕ, ◌+◌, ◌*◌, ◌<◌, ◌≤◌, ◌⊎◌, Bool, List, [], ◌∷◌, ◌++◌, length, flat_map, IsTrue, IsFalse}
use Rattle.air.specs.Air.{IsAir}
use Rattle.bits.specs.Bits.{bytes_bits}
use Rattle.page_pool.specs.Pool.{Pool}
use Rattle.subscribers.specs.Parts.{Parts}
use Rattle.wires.specs.Files.{Files, SameAt, longest_name}
use Rattle.wires.specs.Line.{IsBlank, Keeps, KeepsConnections, KeepsLineAndHang, Line}
use Rattle.wires.specs.Stacked.{are_bytes}
use Rattle.wires.specs.Written.{Written}
use Rattle.serving.specs.declared.session.SessionEnd.{SessionEnd}
use Rattle.serving.specs.Protocols.{IsSessionIn, Protocol, StateIn, ends_as, line_in, queued_in, spoken}
use Rattle.serving.specs.ReportLine.{longest_line}
use Rattle.serving.specs.Sessions.{Closes, HasRoomForReplies, Ran}

-- A session that was served, with the wire before and after it, and the bits of the transmission of its pages. The pool was empty
-- before it.
pub record Served (p : Protocol) (settings : Parts) (spare : ℕ) : Type 0 where
  pub before : Line
  pub after : Line
  pub empty : Pool
  pub pool : Pool
  pub state : StateIn p
  pub end : SessionEnd
  pub bits : List Bool
  pub no_page : empty.live ≡ []
  pub ran : Ran p settings spare before after empty pool state end
  pub closes : Closes p settings spare before after
  pub is_air : IsAir (queued_in p ran.session) bits

-- the bits of the transmissions, one after another
abbrev pub airs : {p : Protocol} {settings : Parts} {spare : ℕ} → List (Served p settings spare) → List Bool
airs sessions = flat_map (λ s. s.bits) sessions

-- the report line of a session
abbrev pub line_for : {p : Protocol} {settings : Parts} {spare : ℕ} → ℕ → Served p settings spare → List ℕ
line_for {p} number s = line_in p number s.end s.ran.session

-- the report lines, numbered from this number on
abbrev pub lines : {p : Protocol} {settings : Parts} {spare : ℕ} → ℕ → List (Served p settings spare) → List ℕ
lines number [] = []
lines number (s ∷ ss) = line_for number s ++ lines (number + 1) ss

-- what holds of each of a list and its number, from this number on
abbrev pub AllFrom : {A : Type 0} → (ℕ → A → Type 0) → ℕ → List A → Type 0
AllFrom P number [] = Unit {0}
AllFrom P number (x ∷ xs) = P number x × AllFrom P (number + 1) xs

-- Only waits for a connection lie between: no connection changed, and no count of faults but the gate's. A steady wire is steady.
pub record Waited (old new : Line) : Type 0 where
  pub keeps : Keeps old new
  pub connections : KeepsConnections old new
  pub counts : KeepsLineAndHang old new
  pub steady : IsTrue old.tells → IsTrue old.steady → IsTrue new.steady

-- Waiting opened the next of the connections that were left, which is blank.
pub record OpenedNext (old new : Line) : Type 0 where
  pub waited : Waited old new
  pub within : IsTrue old.tells → old.opened < old.count
  pub opened : IsTrue old.tells → new.opened ≡ old.opened + 1
  pub is_open : IsTrue old.tells → IsTrue new.is_open
  pub blank : IsTrue old.tells → IsBlank (new.connection old.opened)

-- Waiting opened no connection.
pub record OpenedNone (old new : Line) : Type 0 where
  pub waited : Waited old new
  pub opened : IsTrue old.tells → new.opened ≡ old.opened
  pub shut : IsTrue old.tells → IsFalse old.is_open → IsFalse new.is_open

-- The sessions were served on one wire, one after another, each on the next of its connections: the first where the wire was at first,
-- each further one where the one before it left the wire. After the last one no further connection was opened.
abbrev pub ServedInTurn : {p : Protocol} {settings : Parts} {spare : ℕ} → Line → Line → List (Served p settings spare) → Type 0
ServedInTurn first now [] = OpenedNone first now
ServedInTurn first now (s ∷ ss) = OpenedNext first s.before × ServedInTurn s.after now ss

-- The file holds bytes with these bits, and its room is lower by what it holds. All other files are as they were, and so is the room of a fresh file.
-- The further file is used up where the name was not there.
pub record FileAfter (old now : Files) (name : List ℕ) (bits : List Bool) : Type 0 where
  pub tells : now.tells ≡ old.tells
  pub there : IsTrue old.tells → IsTrue (now.there name)
  pub bits_are : IsTrue old.tells → bytes_bits (now.file name) ≡ bits
  pub of_bytes : IsTrue old.tells → IsTrue (are_bytes (now.file name))
  pub fresh : IsTrue old.tells → IsTrue (now.fresh name)
  pub room : IsTrue old.tells → 8 * now.room name + length bits ≡ 8 * old.fresh_room
  pub others : (other : List ℕ) → other ≢ name → SameAt old now other
  pub fresh_room : now.fresh_room ≡ old.fresh_room
  pub further : IsTrue old.tells → IsTrue (old.there name) → now.further ≡ old.further
  pub used : IsTrue old.tells → IsFalse (old.there name) → IsTrue old.further × IsFalse now.further
  pub lent : now.lent ≡ old.lent

-- these bytes were put
pub record OutAfter (old now : Written ℕ) (bytes : List ℕ) : Type 0 where
  pub tells : now.tells ≡ old.tells
  pub held : IsTrue old.tells → now.held ≡ old.held ++ bytes
  pub room : IsTrue old.tells → now.room + length bytes ≡ old.room
  pub lent : now.lent ≡ old.lent

-- The wire is steady, and each of its next connections, so many or all that are left, has room for the greeting and for the replies to all
-- that is to be heard there.
pub record FitWire (p : Protocol) (settings : Parts) (spare : ℕ) (wire : Line) (most : ℕ) : Type 0 where
  pub tells : IsTrue wire.tells
  pub steady : IsTrue wire.steady
  pub fits : (k : ℕ) → wire.opened ≤ k → k < wire.opened + most → k < wire.count → HasRoomForReplies p settings spare (wire.connection k)

-- The shelf is steady, the file is there or may be added, and a fresh one has room for the transmissions of whatever sessions may be
-- served on as many connections as this.
pub record FitShelf (p : Protocol) (settings : Parts) (spare : ℕ) (wire : Line) (shelf : Files) (name : List ℕ) (most : ℕ) : Type 0 where
  pub tells : IsTrue shelf.tells
  pub steady : IsTrue shelf.steady
  pub proper : IsTrue (shelf.there name) ⊎ (IsTrue shelf.further × (length name ≤ longest_name))
  pub told : IsTrue wire.tells
  pub fits : (now : Line) (sessions : List (Served p settings spare)) → ServedInTurn wire now sessions → length sessions ≤ most → length (airs sessions) ≤ 8 * shelf.fresh_room

-- The output is steady, and has room for so many lines.
pub record FitOut (out : Written ℕ) (most : ℕ) : Type 0 where
  pub tells : IsTrue out.tells
  pub steady : IsTrue out.steady
  pub fits : most * longest_line ≤ out.room

-- the next connections, so many, have room for the greeting and for the replies to all that is to be heard there
abbrev pub NextFit : Protocol → Parts → ℕ → Line → ℕ → Type 0
NextFit p settings spare wire n = (k : ℕ) → wire.opened ≤ k → k < wire.opened + n → HasRoomForReplies p settings spare (wire.connection k)

-- The session on the connection of this number is that of all that was to be heard there, and the greeting and all its replies were said.
pub record IsWhole {p : Protocol} {settings : Parts} {spare : ℕ} (first now : Line) (k : ℕ) (s : Served p settings spare) : Type 0 where
  pub session_is : IsSessionIn p settings spare (first.connection k).rest s.ran.session
  pub said : (now.connection k).said ≡ (first.connection k).said ++ spoken p s.ran.session
  pub end_is : s.end ≡ ends_as p s.ran.session

-- No hear, say and hang-up failed, and the wire is steady.
pub record UsedWell (old new : Line) : Type 0 where
  pub counts : KeepsLineAndHang old new
  pub steady : IsTrue new.steady

-- Each session whose connection is fit, as are those before it, is whole, and up to its end no hear, say and hang-up failed. Where the
-- connections of all sessions are fit, none failed.
pub record ServedWhileFit {p : Protocol} {settings : Parts} {spare : ℕ} (first now : Line) (sessions : List (Served p settings spare)) : Type 0 where
  pub each : (good rest : List (Served p settings spare)) (s : Served p settings spare) → sessions ≡ good ++ s ∷ rest → NextFit p settings spare first (length good + 1)
      → IsWhole first now (first.opened + length good) s × UsedWell first s.after
  pub all : NextFit p settings spare first (length sessions) → UsedWell first now
