-- Steady objects are fit for a command where they have enough room.
use Rattle.std.specs.Prelude.{◌⊎◌, ℕ, ◌<◌, ◌≤◌, true, false, List, [], length, Option, Some, None, IsTrue}
use Rattle.line_writer.specs.LineFile.{CanBeFresh}
use Rattle.wires.specs.Files.{Files, longest_name}
use Rattle.wires.specs.Held.{Connection}
use Rattle.wires.specs.Left.{Left}
use Rattle.wires.specs.Line.{Line}
use Rattle.wires.specs.Stacked.{are_bytes}
use Rattle.wires.specs.Written.{Written}
use Rattle.command_lines.specs.Commands.{Command, Load, One, Play, PlayLine, Send, Show, Snpp, Station, Trial, Twice, WriteLine}
use Rattle.station.specs.OneRun.{FitErr, FitRun}
use Rattle.station.specs.Rows.{Objects, Outside}
use Rattle.one_block.specs.OneRow.{Streams}

-- The objects tell what they hold, and are steady. The output holds bytes.
pub record AreSteady (old : Objects) : Type 0 where
  pub wire_tells : IsTrue old.wire.tells
  pub wire_steady : IsTrue old.wire.steady
  pub shelf_tells : IsTrue old.shelf.tells
  pub shelf_steady : IsTrue old.shelf.steady
  pub input_tells : IsTrue old.streams.input.tells
  pub input_steady : IsTrue old.streams.input.steady
  pub out_tells : IsTrue old.streams.out.tells
  pub out_steady : IsTrue old.streams.out.steady
  pub out_bytes : IsTrue (are_bytes old.streams.out.held)

-- the same objects with so much room on each connection, in a fresh file, and in the output
abbrev pub roomy_connection : ℕ → Connection → Connection
roomy_connection room c = record { heard = c.heard; rest = c.rest; said = c.said; turns = c.turns; room = room }

abbrev pub roomy_wire : ℕ → Line → Line
roomy_wire room l = record l { connection = λ k. roomy_connection room (l.connection k) }

abbrev pub roomy_shelf : ℕ → Files → Files
roomy_shelf room s = record s { fresh_room = room }

abbrev pub roomy_sink : ℕ → Written ℕ → Written ℕ
roomy_sink room w = record w { room = room }

abbrev pub roomy_streams : ℕ → Streams → Streams
roomy_streams room s = record { input = s.input; out = roomy_sink room s.out }

abbrev pub roomy : ℕ → Objects → Objects
roomy room old = record { wire = roomy_wire room old.wire; shelf = roomy_shelf room old.shelf; streams = roomy_streams room old.streams }

-- The files that a command reads are there, and for `send` a connection is left.
abbrev pub HasFiles : Option Command → Objects → Type 0
HasFiles None old = Unit {0}
HasFiles (Some (One capcode)) old = Unit {0}
HasFiles (Some (Load seed count)) old = Unit {0}
HasFiles (Some (Play air receivers)) old = IsTrue (old.shelf.there air)
HasFiles (Some (PlayLine line receivers)) old = IsTrue (old.shelf.there line)
HasFiles (Some (WriteLine air line seed)) old = IsTrue (old.shelf.there air) × CanBeFresh line old.shelf
HasFiles (Some (Show air)) old = IsTrue (old.shelf.there air)
HasFiles (Some (Station address settings air count)) old = IsTrue (old.shelf.there settings) × (IsTrue (old.shelf.there air) ⊎ (IsTrue old.shelf.further × (length air ≤ longest_name)))
HasFiles (Some (Snpp address settings air count)) old = IsTrue (old.shelf.there settings) × (IsTrue (old.shelf.there air) ⊎ (IsTrue old.shelf.further × (length air ≤ longest_name)))
HasFiles (Some (Trial settings noise receivers)) old = IsTrue (old.shelf.there settings) × IsTrue (old.shelf.there noise)
HasFiles (Some (Twice settings noise receivers)) old = IsTrue (old.shelf.there settings) × IsTrue (old.shelf.there noise)
HasFiles (Some (Send address pages)) old = IsTrue (old.shelf.there pages) × (old.wire.opened < old.wire.count)

-- For each command, steady objects with its files are fit for it wherever they have so much room or more.
abbrev pub FitWithRoom : Type 0
FitWithRoom = (command : Option Command) (old : Objects) → AreSteady old → HasFiles command old → (enough : ℕ) × ((room : ℕ) → enough ≤ room → FitRun command (roomy room old))

-- The longest line about what a command comes to: that of an id which stands twice, at the entry 10000.
abbrev pub longest_line_about : ℕ
longest_line_about = 42

-- A steady output of errors is fit for each command wherever it has room for the longest line.
abbrev pub FitErrWithRoom : Type 0
FitErrWithRoom = (command : Option Command) (old : Outside) → IsTrue old.err.tells → IsTrue old.err.steady → longest_line_about ≤ old.err.room → FitErr command old

-- ---- objects in memory

-- one connection, on which these bytes are to be heard. No other is there
abbrev pub one_connection : List ℕ → Line
one_connection heard = record {
  tells = true;
  count = 1;
  connection = λ k. record { heard = 0; rest = heard; said = []; turns = []; room = 0 };
  opened = 0;
  is_open = false;
  asked = [];
  steady = true;
  gate = 0;
  hear = 0;
  say = 0;
  hang = 0;
  lent = [];
}

-- every name is there, and has these bytes
abbrev pub all_there : (List ℕ → List ℕ) → Files
all_there file = record { tells = true; there = λ name. true; file = file; fresh = λ name. false; room = λ name. 0; fresh_room = 0; further = true; steady = true; faults = 0; lent = [] }

-- bytes to be read
abbrev pub in_memory : List ℕ → Left ℕ
in_memory bytes = record { tells = true; left = bytes; there = true; steady = true; faults = 0; lent = [] }

-- an output that holds nothing, with so much room
abbrev pub a_sink : ℕ → Written ℕ
a_sink room = record { tells = true; held = []; room = room; steady = true; faults = 0; lent = [] }

-- a wire, a shelf, an input and an output in memory
abbrev pub world : List ℕ → (List ℕ → List ℕ) → List ℕ → Objects
world heard file input = record { wire = one_connection heard; shelf = all_there file; streams = record { input = in_memory input; out = a_sink 0 } }

-- For each command, and whatever is to be heard, stands in the files and is to be read, objects in memory are fit with enough room.
abbrev pub FitInMemory : Type 0
FitInMemory = (command : Option Command) (heard input : List ℕ) (file : List ℕ → List ℕ)
    → (enough : ℕ) × ((room : ℕ) → enough ≤ room → FitRun command (roomy room (world heard file input)) × FitErr command (record { objects = roomy room (world heard file input); err = a_sink room }))
