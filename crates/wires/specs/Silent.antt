-- What objects tell that tell nothing but their counts.
use Rattle.std.specs.Prelude.{ℕ, false, []}
use Rattle.wires.specs.Files.{Files}
use Rattle.wires.specs.Held.{Connection}
use Rattle.wires.specs.Left.{Left}
use Rattle.wires.specs.Line.{Line}
use Rattle.wires.specs.Written.{Written}

-- a source of bytes or bits
abbrev pub silent_source : {A : Type 0} → ℕ → Left A
silent_source faults = record { tells = false; left = []; there = false; steady = false; faults = faults; lent = [] }

-- a sink of bytes or bits
abbrev pub silent_sink : {A : Type 0} → ℕ → Written A
silent_sink faults = record { tells = false; held = []; room = 0; steady = false; faults = faults; lent = [] }

-- a shelf
abbrev pub silent_shelf : ℕ → Files
silent_shelf faults = record {
  tells = false;
  there = λ _. false;
  file = λ _. [];
  fresh = λ _. false;
  room = λ _. 0;
  fresh_room = 0;
  further = false;
  steady = false;
  faults = faults;
  lent = [];
}

-- a connection of which nothing is told
abbrev pub silent_connection : Connection
silent_connection = record { heard = 0; rest = []; said = []; turns = []; room = 0 }

-- the counts of a wire
pub record LineFaults : Type 0 where
  pub gate : ℕ
  pub hear : ℕ
  pub say : ℕ
  pub hang : ℕ

-- the counts of a wire of which no call failed
abbrev pub no_faults : LineFaults
no_faults = record { gate = 0; hear = 0; say = 0; hang = 0 }

-- a wire, by its counts
abbrev pub silent_wire : LineFaults → Line
silent_wire faults = record {
  tells = false;
  count = 0;
  connection = λ _. silent_connection;
  opened = 0;
  is_open = false;
  asked = [];
  steady = false;
  gate = faults.gate;
  hear = faults.hear;
  say = faults.say;
  hang = faults.hang;
  lent = [];
}
