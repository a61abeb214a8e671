-- What is heard of the bits of a file.
use Rattle.std.specs.Prelude.{◌≡◌, ℕ, ◌&&◌, Bool, List, IsTrue}
use Rattle.bits.specs.Bits.{bytes_bits}
use Rattle.wires.specs.Files.{Files, all_files}
use Rattle.wires.specs.Left.{Left}
use Rattle.wires.specs.Written.{Written}
use Rattle.endings.specs.declared.statuses.Status.{Status}
use Rattle.endings.specs.declared.statuses.Status.TheVariants.{Memory}
use Rattle.listening.specs.Listening.{HasListened, OutWell}

-- the bits of a file's bytes, as they are read. Reading fails not where the shelf is steady and the name is there
abbrev pub file_bits : List ℕ → Files → Left Bool
file_bits name shelf = record {
  tells = shelf.tells;
  left = bytes_bits (shelf.file name);
  there = shelf.there name;
  steady = shelf.steady && shelf.there name;
  faults = shelf.faults;
  lent = shelf.lent;
}

-- What the bits of a file give was printed, by status: `rest` is what is left of them. No file changed, faults of the shelf are those of
-- reading the bits, and it is steady where they are. So is an output that was steady and had room for the lines of all bits.
pub record HearsFile (printed : List Bool → List ℕ) (name : List ℕ) (old new : Files) (out0 out : Written ℕ) (status : Status) : Type 0 where
  pub rest : Left Bool
  pub listens : HasListened printed (file_bits name old) rest out0 out status
  pub faults : new.faults ≡ rest.faults
  pub steady : IsTrue rest.steady → IsTrue new.steady
  pub tells : new.tells ≡ old.tells
  pub files : all_files new ≡ all_files old
  pub lent : new.lent ≡ old.lent
  pub out_well : OutWell printed (file_bits name old) out0 out status

-- What the bits of a file give was printed, or there was no memory for the receivers and nothing was touched.
abbrev pub Plays : (List Bool → List ℕ) → List ℕ → Files → Files → Written ℕ → Written ℕ → Status → Type 0
Plays printed name old new out0 out Memory = (new ≡ old) × (out ≡ out0)
Plays printed name old new out0 out status = HearsFile printed name old new out0 out status
