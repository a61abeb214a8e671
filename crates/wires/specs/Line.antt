-- What a wire tells of its connections.
use Rattle.std.specs.Prelude.{◌≡◌, ◌≢◌, ℕ, ◌+◌, ◌-◌, ◌<◌, ◌≤◌, ◌↔◌, Bool, List, [], ◌∷◌, ◌++◌, length, Result, Ok, Err, IsOk, OnOk, OnErr, IfOk, IsTrue, IsFalse}
use Rattle.wires.specs.Causes.{HasCause}
use Rattle.wires.specs.Held.{Held, Connection}
use Rattle.wires.specs.Left.{Consumes}
use Rattle.wires.specs.Written.{Appends}

-- what a wire tells. The connections are numbered from 0; the first `opened` of them were opened, and the last of these is open where `is_open` says so
pub record Line : Type 0 where
  -- whether it tells its content: the connections, which is open, the address asked for and whether it is steady, which mean nothing where it
  -- does not
  pub tells : Bool
  pub count : ℕ
  pub connection : ℕ → Connection
  pub opened : ℕ
  pub is_open : Bool
  -- the address that was listened at or dialled last, as bytes
  pub asked : List ℕ
  -- no proper call fails
  pub steady : Bool
  -- the faults of listen, next and dial, of hear, of say, and of hang_up
  pub gate : ℕ
  pub hear : ℕ
  pub say : ℕ
  pub hang : ℕ
  pub lent : List Held

-- the line faults, which are those of hear and of say
abbrev pub line_faults : Line → ℕ
line_faults l = l.hear + l.say

-- all faults of a wire
abbrev pub wire_faults : Line → ℕ
wire_faults l = l.gate + line_faults l + l.hang

-- the number of the connection that was opened last
abbrev pub last : Line → ℕ
last l = l.opened - 1

-- nothing was heard or said on a connection, and it has no turns
pub record IsBlank (c : Connection) : Type 0 where
  pub heard : c.heard ≡ 0
  pub said : c.said ≡ []
  pub turns : c.turns ≡ []

-- the connections that were not opened yet are blank
abbrev pub AllLeftAreBlank : Line → Type 0
AllLeftAreBlank l = (k : ℕ) → l.opened ≤ k → k < l.count → IsBlank (l.connection k)

-- what no call changes
pub record Keeps (old new : Line) : Type 0 where
  pub tells : new.tells ≡ old.tells
  pub count : new.count ≡ old.count
  pub lent : new.lent ≡ old.lent

-- bytes, turns and room of every connection are as before
abbrev pub KeepsConnections : Line → Line → Type 0
KeepsConnections old new = (k : ℕ) → new.connection k ≡ old.connection k

-- the counts of line and hang faults are as before
pub record KeepsLineAndHang (old new : Line) : Type 0 where
  pub hear : new.hear ≡ old.hear
  pub say : new.say ≡ old.say
  pub hang : new.hang ≡ old.hang

-- a wait at an address, which is then the one asked for last: it changes no connection, nor which is open and which are left
pub record Listens {T E : Type 0} (old new : Line) (at : List ℕ) (result : Result T E) : Type 0 where
  pub keeps : Keeps old new
  pub blank : IsTrue old.tells → AllLeftAreBlank old
  pub connections : KeepsConnections old new
  pub asked : IsTrue old.tells → new.asked ≡ at
  pub opened : new.opened ≡ old.opened
  pub is_open : new.is_open ≡ old.is_open
  pub steady : IsTrue old.tells → IsTrue old.steady → IsOk result × IsTrue new.steady
  pub cause : HasCause old.gate new.gate result
  pub others : KeepsLineAndHang old new

-- the next connection comes: true opened it, and false is answered exactly where none is left. One that was open before is closed, whatever is answered
pub record Opens {E : Type 0} (old new : Line) (result : Result Bool E) : Type 0 where
  pub keeps : Keeps old new
  pub blank : IsTrue old.tells → AllLeftAreBlank old
  pub connections : KeepsConnections old new
  pub asked : new.asked ≡ old.asked
  pub opened : IsTrue old.tells → IfOk result (λ came. IsTrue came → (old.opened < old.count) × (new.opened ≡ old.opened + 1) × IsTrue new.is_open)
  pub none : IsTrue old.tells → IfOk result (λ came. IsFalse came ↔ (old.count ≤ old.opened))
  pub not_opened : IsTrue old.tells → IfOk result (λ came. IsFalse came → (new.opened ≡ old.opened) × IsFalse new.is_open)
  pub failed : IsTrue old.tells → OnErr result ((new.opened ≡ old.opened) × IsFalse new.is_open)
  pub steady : IsTrue old.tells → IsTrue old.steady → IsOk result × IsTrue new.steady
  pub cause : HasCause old.gate new.gate result
  pub others : KeepsLineAndHang old new

-- the next connection is opened to an address, which is then the one asked for last. One that was open before is closed, whatever is answered
pub record Dials {T E : Type 0} (old new : Line) (at : List ℕ) (result : Result T E) : Type 0 where
  pub keeps : Keeps old new
  pub blank : IsTrue old.tells → AllLeftAreBlank old
  pub connections : KeepsConnections old new
  pub asked : IsTrue old.tells → new.asked ≡ at
  pub opened : IsTrue old.tells → OnOk result ((old.opened < old.count) × (new.opened ≡ old.opened + 1) × IsTrue new.is_open)
  pub failed : IsTrue old.tells → OnErr result ((new.opened ≡ old.opened) × IsFalse new.is_open)
  pub steady : IsTrue old.tells → IsTrue old.steady → old.opened < old.count → IsOk result × IsTrue new.steady
  pub cause : HasCause old.gate new.gate result
  pub others : KeepsLineAndHang old new

-- no connection but the open one changed, and which is open, which are left and the address stay
pub record Uses (old new : Line) : Type 0 where
  pub keeps : Keeps old new
  pub blank : IsTrue old.tells → AllLeftAreBlank old
  pub others : (k : ℕ) → (IsTrue old.is_open → k ≢ last old) → new.connection k ≡ old.connection k
  pub opened : new.opened ≡ old.opened
  pub is_open : new.is_open ≡ old.is_open
  pub asked : new.asked ≡ old.asked

-- a read that gave bytes is a turn more, and what it gave was heard
abbrev pub TurnsAfter : {E : Type 0} → Connection → Connection → Result ℕ E → Type 0
TurnsAfter old new (Ok n) = (n ≡ 0 → new.turns ≡ old.turns) × (0 < n → new.turns ≡ old.turns ++ (old.heard, length old.said) ∷ []) × (new.heard ≡ old.heard + n)
TurnsAfter old new (Err _) = (new.turns ≡ old.turns) × (new.heard ≡ old.heard)

-- what was said on a connection stays, and its room
pub record KeepsSaid (old new : Connection) : Type 0 where
  pub said : new.said ≡ old.said
  pub room : new.room ≡ old.room

-- what was heard on a connection stays, with what is still to be heard and the turns
pub record KeepsHeard (old new : Connection) : Type 0 where
  pub heard : new.heard ≡ old.heard
  pub rest : new.rest ≡ old.rest
  pub turns : new.turns ≡ old.turns

-- a read from the open connection into a buffer
pub record Hears {E : Type 0} (old new : Line) (buffer : List ℕ) (result : Result ℕ E) : Type 0 where
  pub uses : Uses old new
  pub within : IfOk result (λ n. n ≤ length buffer)
  pub closed : IsTrue old.tells → IsOk result → IsTrue old.is_open
  pub rest : IsTrue old.tells → IsTrue old.is_open → Consumes (old.connection (last old)).rest (new.connection (last old)).rest buffer result
  pub turns : IsTrue old.tells → IsTrue old.is_open → TurnsAfter (old.connection (last old)) (new.connection (last old)) result
  pub said : KeepsSaid (old.connection (last old)) (new.connection (last old))
  pub steady : IsTrue old.tells → IsTrue old.steady → IsTrue old.is_open → IsOk result × IsTrue new.steady
  pub cause : HasCause old.hear new.hear result
  pub gate : new.gate ≡ old.gate
  pub say : new.say ≡ old.say
  pub hang : new.hang ≡ old.hang

-- a write of a piece to the open connection
pub record Says {T E : Type 0} (old new : Line) (piece : List ℕ) (result : Result T E) : Type 0 where
  pub uses : Uses old new
  pub closed : IsTrue old.tells → IsOk result → IsTrue old.is_open
  pub said : IsTrue old.tells → Appends (old.connection (last old)).said (new.connection (last old)).said piece result
  pub room : IsTrue old.tells → (new.connection (last old)).room + length (new.connection (last old)).said ≡ (old.connection (last old)).room + length (old.connection (last old)).said
  pub heard : KeepsHeard (old.connection (last old)) (new.connection (last old))
  pub steady : IsTrue old.tells → IsTrue old.steady → IsTrue old.is_open → length piece ≤ (old.connection (last old)).room → IsOk result × IsTrue new.steady
  pub cause : HasCause old.say new.say result
  pub gate : new.gate ≡ old.gate
  pub hear : new.hear ≡ old.hear
  pub hang : new.hang ≡ old.hang

-- the open connection is closed, whatever is answered, and which are left stays
pub record HangsUp {T E : Type 0} (old new : Line) (result : Result T E) : Type 0 where
  pub keeps : Keeps old new
  pub blank : IsTrue old.tells → AllLeftAreBlank old
  pub connections : KeepsConnections old new
  pub asked : new.asked ≡ old.asked
  pub opened : new.opened ≡ old.opened
  pub shut : IsTrue old.tells → IsFalse new.is_open
  pub closed : IsTrue old.tells → IsOk result → IsTrue old.is_open
  pub steady : IsTrue old.tells → IsTrue old.steady → IsTrue old.is_open → IsOk result × IsTrue new.steady
  pub cause : HasCause old.hang new.hang result
  pub gate : new.gate ≡ old.gate
  pub hear : new.hear ≡ old.hear
  pub say : new.say ≡ old.say
