-- The commands `station`, `snpp`, `trial` and `twice`, from their settings on.
use Rattle.std.specs.Prelude.{◌≡◌, ◌⊎◌, ℕ, ◌&&◌, Bool, List, IsTrue, Result, Ok, Err}
use Rattle.bits.specs.Bits.{bytes_bits}
use Rattle.subscribers.specs.Parts.{Parts}
use Rattle.wires.specs.Files.{Files}
use Rattle.wires.specs.Left.{Left}
use Rattle.wires.specs.Written.{Written}
use Rattle.station.specs.declared.outcomes.Outcome.{Outcome}
use Rattle.station.specs.declared.outcomes.Outcome.TheVariants.{Ended, Misread, Refused}
use Rattle.endings.specs.declared.statuses.Status.{Status}
use Rattle.endings.specs.declared.statuses.Status.TheVariants.{FileFault, Memory}
use Rattle.listening.specs.PageLines.{play_lines}
use Rattle.listening.specs.TwinLines.{twice_lines}
use Rattle.station.specs.ReadFile.{HasNoSettings, KeepsFiles, ReadSettings, RefusedSettings, Unharmed, Unreadable}
use Rattle.serving.specs.Protocols.{Protocol}
use Rattle.serving.specs.Sent.{Times, once, twice}
use Rattle.serving.specs.Serving.{Around, HasServed}
use Rattle.serving.specs.StationState.{StationState}
use Rattle.serving.specs.Trying.{TrialOutWell, Tries}

-- a station of the settings of a file, or what a command comes to that has none
abbrev pub OpensStation : List ℕ → Files → Files → Result StationState Outcome → Type 0
OpensStation name old new (Ok station) = ReadSettings name old new station.settings
OpensStation name old new (Err outcome) = HasNoSettings name old new outcome

-- with this shelf in place of its own
abbrev pub with_shelf : Around → Files → Around
with_shelf around shelf = record { wire = around.wire; shelf = shelf; out = around.out }

-- The settings were read, and connections at the address were served by them, by an entry line of this protocol, with as many spare cells as
-- they say.
pub record ServedBy (p : Protocol) (address settings air : List ℕ) (count : ℕ) (old new : Around) (status : Status) : Type 0 where
  pub parts : Parts
  pub shelf : Files
  pub read : ReadSettings settings old.shelf shelf parts
  pub served : HasServed p parts parts.cells (with_shelf old shelf) new address air count status

-- Wire and output are as they were.
pub record LeavesWireAndOut (old new : Around) : Type 0 where
  pub wire : new.wire ≡ old.wire
  pub out : new.out ≡ old.out

-- `station` and `snpp`, by their protocol and what they came to
abbrev pub StationRow : Protocol → List ℕ → List ℕ → List ℕ → ℕ → Around → Around → Outcome → Type 0
StationRow p address settings air count old new (Refused fault) = RefusedSettings settings old.shelf new.shelf fault × LeavesWireAndOut old new
StationRow p address settings air count old new (Misread fault) = ⊥
StationRow p address settings air count old new (Ended Memory) = Unharmed settings old.shelf new.shelf × LeavesWireAndOut old new
StationRow p address settings air count old new (Ended FileFault) =
    (Unreadable settings old.shelf new.shelf × LeavesWireAndOut old new) ⊎ ServedBy p address settings air count old new FileFault
StationRow p address settings air count old new (Ended status) = ServedBy p address settings air count old new status

-- these are the bits of a file's bytes
pub record AreFileBits (name : List ℕ) (shelf : Files) (bits : Left Bool) : Type 0 where
  pub tells : bits.tells ≡ shelf.tells
  pub left : bits.left ≡ bytes_bits (shelf.file name)
  pub there : bits.there ≡ shelf.there name
  pub steady : bits.steady ≡ (shelf.steady && shelf.there name)
  pub faults : bits.faults ≡ shelf.faults

-- The session of an input was tried, with the bits of a file as noise, of which `rest` is left. No file changed, and the
-- shelf is steady where the noise is. So is an output that was steady and had room for the lines of the trial.
pub record TriesFile (times : Times) (parts : Parts) (spare : ℕ) (printed : List Bool → List ℕ) (noise : List ℕ) (input0 input : Left ℕ) (old new : Files) (out0 out : Written ℕ) (status : Status) : Type 0 where
  pub bits : Left Bool
  pub rest : Left Bool
  pub bits_are : AreFileBits noise old bits
  pub tries : Tries times parts spare printed input0 input bits rest out0 out status
  pub kept : KeepsFiles old new
  pub faults : new.faults ≡ rest.faults
  pub steady : IsTrue rest.steady → IsTrue new.steady
  pub out_well : TrialOutWell times parts spare printed input0 bits out0 out status

-- what receivers print of bits that are a transmission once or twice
abbrev pub lines_by : Times → List (List ℕ) → List Bool → List ℕ
lines_by once receivers = play_lines receivers
lines_by twice receivers = twice_lines receivers

-- The settings were read, and the session of the input tried by them.
pub record TriedBy (times : Times) (settings noise : List ℕ) (receivers : List (List ℕ)) (input0 input : Left ℕ) (old new : Files) (out0 out : Written ℕ) (status : Status) : Type 0 where
  pub parts : Parts
  pub shelf : Files
  pub read : ReadSettings settings old shelf parts
  pub tried : TriesFile times parts parts.cells (lines_by times receivers) noise input0 input shelf new out0 out status

-- `trial` and `twice`, by what it came to
abbrev pub TrialRow : Times → List ℕ → List ℕ → List (List ℕ) → Left ℕ → Left ℕ → Files → Files → Written ℕ → Written ℕ → Outcome → Type 0
TrialRow times settings noise receivers input0 input old new out0 out (Refused fault) = RefusedSettings settings old new fault × (input ≡ input0) × (out ≡ out0)
TrialRow times settings noise receivers input0 input old new out0 out (Misread fault) = ⊥
TrialRow times settings noise receivers input0 input old new out0 out (Ended Memory) = Unharmed settings old new × (input ≡ input0) × (out ≡ out0)
TrialRow times settings noise receivers input0 input old new out0 out (Ended FileFault) =
    (Unreadable settings old new × (input ≡ input0) × (out ≡ out0)) ⊎ TriedBy times settings noise receivers input0 input old new out0 out FileFault
TrialRow times settings noise receivers input0 input old new out0 out (Ended status) = TriedBy times settings noise receivers input0 input old new out0 out status
