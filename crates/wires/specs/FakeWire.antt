-- What a wire in memory holds and tells, and exactly what its calls do.
use Rattle.std.specs.Prelude.{◌≡◌, ℕ, ◌+◌, ◌-◌, ◌<◌, ◌≤◌, ◌⊎◌, ◌↔◌, min, nat_eq, Bool, true, List, [], ◌∷◌, ◌++◌, length, take, drop, set, get_or, if◌then◌else◌, Result, IsErr, IfOk, OnOk, OnErr, IsTrue, IsFalse}
use Rattle.wires.specs.Calls.{CallsMade, Counts, is_steady, next_fails}
use Rattle.wires.specs.Causes.{next_count}
use Rattle.wires.specs.Held.{Connection}
use Rattle.wires.specs.Line.{IsBlank, Line}
use Rattle.wires.specs.Silent.{LineFaults, silent_connection}

-- a connection on which nothing was heard or said
abbrev pub unused : List ℕ → ℕ → Connection
unused bytes room = record { heard = 0; rest = bytes; said = []; turns = []; room = room }

-- so many bytes more were heard on a connection: a turn more, unless there were none
abbrev pub heard_on : Connection → ℕ → Connection
heard_on c n = record {
  heard = c.heard + n;
  rest = drop n c.rest;
  said = c.said;
  turns = if nat_eq n 0 then c.turns else c.turns ++ (c.heard, length c.said) ∷ [];
  room = c.room;
}

-- a piece more was said on a connection
abbrev pub said_on : Connection → List ℕ → Connection
said_on c piece = record { heard = c.heard; rest = c.rest; said = c.said ++ piece; turns = c.turns; room = c.room - length piece }

-- a wire in memory: its connections, how many were opened, whether the last of these is open, the address asked for last, how many bytes
-- it gives at most in one `hear`, its calls, and how many of each kind failed
pub record WireInMemory : Type 0 where
  pub connections : List Connection
  pub opened : ℕ
  pub is_open : Bool
  pub asked : List ℕ
  pub cut : ℕ
  pub calls : CallsMade
  pub faults : LineFaults

abbrev pub wire_tells : WireInMemory → Line
wire_tells w = record {
  tells = true;
  count = length w.connections;
  connection = λ k. get_or w.connections k silent_connection;
  opened = w.opened;
  is_open = w.is_open;
  asked = w.asked;
  steady = is_steady w.calls;
  gate = w.faults.gate;
  hear = w.faults.hear;
  say = w.faults.say;
  hang = w.faults.hang;
  lent = [];
}

-- nothing was heard or said on the connections from a place on
abbrev pub AllBlankFrom : ℕ → List Connection → Type 0
AllBlankFrom n cs = (k : ℕ) → n ≤ k → k < length cs → IsBlank (get_or cs k silent_connection)

-- the connection that was opened last
abbrev pub last_of : WireInMemory → Connection
last_of w = get_or w.connections (w.opened - 1) silent_connection

-- one more fault of each kind of call
abbrev pub gate_fault : LineFaults → LineFaults
gate_fault f = record { gate = next_count f.gate; hear = f.hear; say = f.say; hang = f.hang }

abbrev pub hear_fault : LineFaults → LineFaults
hear_fault f = record { gate = f.gate; hear = next_count f.hear; say = f.say; hang = f.hang }

abbrev pub say_fault : LineFaults → LineFaults
say_fault f = record { gate = f.gate; hear = f.hear; say = next_count f.say; hang = f.hang }

abbrev pub hang_fault : LineFaults → LineFaults
hang_fault f = record { gate = f.gate; hear = f.hear; say = f.say; hang = next_count f.hang }

-- a call more was made, and a fault of its kind counted exactly where it failed
pub record CountsKind {T E : Type 0} (fault : LineFaults → LineFaults) (old new : WireInMemory) (result : Result T E) : Type 0 where
  pub cut : new.cut ≡ old.cut
  pub calls : Counts old.calls new.calls result
  pub kept : OnOk result (new.faults ≡ old.faults)
  pub counted : OnErr result (new.faults ≡ fault old.faults)

-- a wait fails exactly where its number is one that fails
pub record ListensInMemory {T E : Type 0} (old new : WireInMemory) (at : List ℕ) (result : Result T E) : Type 0 where
  pub counts : CountsKind gate_fault old new result
  pub fails : IsErr result ↔ IsTrue (next_fails old.calls)
  pub asked : new.asked ≡ at
  pub connections : new.connections ≡ old.connections
  pub opened : new.opened ≡ old.opened
  pub is_open : new.is_open ≡ old.is_open

-- the next connection comes where one is left, and the call fails exactly where its number is one that fails
pub record OpensInMemory {E : Type 0} (old new : WireInMemory) (result : Result Bool E) : Type 0 where
  pub counts : CountsKind gate_fault old new result
  pub fails : IsErr result ↔ IsTrue (next_fails old.calls)
  pub asked : new.asked ≡ old.asked
  pub connections : new.connections ≡ old.connections
  pub came : IfOk result (λ came. IsTrue came ↔ (old.opened < length old.connections))
  pub opened : IfOk result (λ came. IsTrue came → (new.opened ≡ old.opened + 1) × IsTrue new.is_open)
  pub none : IfOk result (λ came. IsFalse came → (new.opened ≡ old.opened) × IsFalse new.is_open)
  pub failed : OnErr result ((new.opened ≡ old.opened) × IsFalse new.is_open)

-- a dial fails exactly where its number is one that fails or no connection is left
pub record DialsInMemory {T E : Type 0} (old new : WireInMemory) (at : List ℕ) (result : Result T E) : Type 0 where
  pub counts : CountsKind gate_fault old new result
  pub fails : IsErr result ↔ (IsTrue (next_fails old.calls) ⊎ (length old.connections ≤ old.opened))
  pub asked : new.asked ≡ at
  pub connections : new.connections ≡ old.connections
  pub opened : OnOk result ((new.opened ≡ old.opened + 1) × IsTrue new.is_open)
  pub failed : OnErr result ((new.opened ≡ old.opened) × IsFalse new.is_open)

-- a read fails exactly where its number is one that fails or no connection is open, and else gives as many bytes as are left and the
-- buffer has room for, and at most the cut
pub record HearsInMemory {E : Type 0} (old new : WireInMemory) (buffer : List ℕ) (result : Result ℕ E) : Type 0 where
  pub counts : CountsKind hear_fault old new result
  pub fails : IsErr result ↔ (IsTrue (next_fails old.calls) ⊎ IsFalse old.is_open)
  pub asked : new.asked ≡ old.asked
  pub count : IfOk result (λ n. n ≡ min (min (length (last_of old).rest) (length buffer)) old.cut)
  pub bytes : IfOk result (λ n. take n buffer ≡ take n (last_of old).rest)
  pub heard : IfOk result (λ n. new.connections ≡ set old.connections (old.opened - 1) (heard_on (last_of old) n))
  pub failed : OnErr result (new.connections ≡ old.connections)
  pub opened : new.opened ≡ old.opened
  pub is_open : new.is_open ≡ old.is_open

-- a write fails exactly where its number is one that fails, no connection is open, or the room would be passed, and then nothing was said
pub record SaysInMemory {T E : Type 0} (old new : WireInMemory) (piece : List ℕ) (result : Result T E) : Type 0 where
  pub counts : CountsKind say_fault old new result
  pub fails : IsErr result ↔ (IsTrue (next_fails old.calls) ⊎ IsFalse old.is_open ⊎ ((last_of old).room < length piece))
  pub asked : new.asked ≡ old.asked
  pub said : OnOk result (new.connections ≡ set old.connections (old.opened - 1) (said_on (last_of old) piece))
  pub failed : OnErr result (new.connections ≡ old.connections)
  pub opened : new.opened ≡ old.opened
  pub is_open : new.is_open ≡ old.is_open

-- a hang-up fails exactly where its number is one that fails or no connection is open
pub record HangsUpInMemory {T E : Type 0} (old new : WireInMemory) (result : Result T E) : Type 0 where
  pub counts : CountsKind hang_fault old new result
  pub fails : IsErr result ↔ (IsTrue (next_fails old.calls) ⊎ IsFalse old.is_open)
  pub asked : new.asked ≡ old.asked
  pub connections : new.connections ≡ old.connections
  pub opened : new.opened ≡ old.opened
  pub shut : IsFalse new.is_open
