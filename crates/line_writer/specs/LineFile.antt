-- What writing the samples of a file's bits to another file does. docs/profile.md, "line".
use Rattle.std.specs.Prelude.{◌≡◌, ◌≢◌, ◌⊎◌, ℕ, ◌+◌, ◌*◌, ◌<◌, ◌≤◌, Bool, List, [], length, take, Result, Ok, Err, IsTrue, IsFalse}
use Rattle.bits.specs.Bits.{bytes_bits}
use Rattle.endings.specs.declared.statuses.Status.{Status}
use Rattle.endings.specs.declared.statuses.Status.TheVariants.{Done, FileFault, Memory, TooLong}
use Rattle.sampler.specs.Strayed.{strayed}
use Rattle.wires.specs.Causes.{Rose}
use Rattle.wires.specs.Files.{AppendsTo, Files, SameAt, all_files, longest_name}
use Rattle.wires.specs.Fronts.{IsFront}
use Rattle.wires.specs.Stacked.{are_bytes}

-- so many bytes of a file are read at most
abbrev pub most_sampled : ℕ
most_sampled = 8388608

-- A file can be made fresh: it is there, or it may be added.
abbrev pub CanBeFresh : List ℕ → Files → Type 0
CanBeFresh name shelf = IsTrue (shelf.there name) ⊎ (IsTrue shelf.further × (length name ≤ longest_name))

-- All files but this one are as they were.
pub record OthersStand (name : List ℕ) (old new : Files) : Type 0 where
  pub tells : new.tells ≡ old.tells
  pub others : (other : List ℕ) → other ≢ name → SameAt old new other
  pub fresh_room : new.fresh_room ≡ old.fresh_room
  pub lent : new.lent ≡ old.lent

-- A file was made fresh: it is there, and what was appended since lowered its room. A name that was not there used up the further file.
pub record MadeFresh (name : List ℕ) (old new : Files) : Type 0 where
  pub there : IsTrue old.tells → IsTrue (new.there name)
  pub fresh : IsTrue old.tells → IsTrue (new.fresh name)
  pub room : IsTrue old.tells → new.room name + length (new.file name) ≡ old.fresh_room
  pub further : IsTrue old.tells → IsTrue (old.there name) → new.further ≡ old.further
  pub used : IsTrue old.tells → IsFalse (old.there name) → IsTrue old.further × IsFalse new.further

-- These bytes have these bits, eight in each byte.
pub record AreBytesOf (bits : List Bool) (bytes : List ℕ) : Type 0 where
  pub bits_are : bytes_bits bytes ≡ bits
  pub are : IsTrue (are_bytes bytes)

-- These bytes are the samples of the bits of others, eight in each byte, where the edges are moved by the generator of this seed.
abbrev pub AreSamples : List ℕ → List ℕ → ℕ → Type 0
AreSamples bytes of seed = AreBytesOf (strayed (bytes_bits of) seed) bytes

-- The file `air` was there and was read whole, and the file `line` holds the samples of its bits.
pub record WroteLine (air line : List ℕ) (seed : ℕ) (old new : Files) : Type 0 where
  pub others : OthersStand line old new
  pub made : MadeFresh line old new
  pub there : IsTrue old.tells → IsTrue (old.there air)
  pub few : IsTrue old.tells → length (old.file air) ≤ most_sampled
  pub holds : IsTrue old.tells → AreSamples (new.file line) (old.file air) seed
  pub steady : IsTrue old.tells → IsTrue old.steady → CanBeFresh line old → 8 * length (old.file air) ≤ old.fresh_room → IsTrue new.steady
  pub faults : new.faults ≡ old.faults

-- The file `air` was there and has more bytes than are read. The file `line` is empty.
pub record AirTooLong (air line : List ℕ) (old new : Files) : Type 0 where
  pub others : OthersStand line old new
  pub made : MadeFresh line old new
  pub there : IsTrue old.tells → IsTrue (old.there air)
  pub many : IsTrue old.tells → most_sampled < length (old.file air)
  pub empty : IsTrue old.tells → new.file line ≡ []
  pub steady : IsTrue old.tells → IsTrue old.steady → CanBeFresh line old → IsTrue new.steady
  pub faults : new.faults ≡ old.faults

-- The file `line` could not be made fresh: it holds what it held, or nothing.
pub record LineNotFresh (line : List ℕ) (old new : Files) : Type 0 where
  pub stands : IsTrue old.tells → (new.file line ≡ old.file line) ⊎ (new.file line ≡ [])
  pub there : IsTrue old.tells → IsTrue (old.there line) → IsTrue (new.there line)
  pub unfit : IsTrue old.tells → IsTrue old.steady → CanBeFresh line old → ⊥

-- A read of the file `air` failed. The file `line` is empty.
pub record AirUnread (air line : List ℕ) (old new : Files) : Type 0 where
  pub made : MadeFresh line old new
  pub empty : IsTrue old.tells → new.file line ≡ []
  pub unfit : IsTrue old.tells → IsTrue old.steady → CanBeFresh line old → IsTrue (old.there air) → ⊥

-- An append failed. The file `air` was there and was read whole, and the file `line` holds a front of the samples of its bits.
pub record LineCut (air line : List ℕ) (seed : ℕ) (old new : Files) : Type 0 where
  pub made : MadeFresh line old new
  pub there : IsTrue old.tells → IsTrue (old.there air)
  pub few : IsTrue old.tells → length (old.file air) ≤ most_sampled
  pub bytes : List ℕ
  pub samples : IsTrue old.tells → AreSamples bytes (old.file air) seed
  pub front : IsTrue old.tells → IsFront (new.file line) bytes
  pub unfit : IsTrue old.tells → IsTrue old.steady → CanBeFresh line old → 8 * length (old.file air) ≤ old.fresh_room → ⊥

-- A call of the shelf failed, and a fault was counted.
pub record LineFault (air line : List ℕ) (seed : ℕ) (old new : Files) : Type 0 where
  pub others : OthersStand line old new
  pub faults : Rose old.faults new.faults
  pub at : LineNotFresh line old new ⊎ (AirUnread air line old new ⊎ LineCut air line seed old new)

-- What writing a line does, by status. Where there was no memory nothing is touched.
abbrev pub WritesLine : List ℕ → List ℕ → ℕ → Files → Files → Status → Type 0
WritesLine air line seed old new Done = WroteLine air line seed old new
WritesLine air line seed old new TooLong = AirTooLong air line old new
WritesLine air line seed old new FileFault = LineFault air line seed old new
WritesLine air line seed old new Memory = new ≡ old
WritesLine air line seed old new other = ⊥

-- ---- its two parts

-- A file was there and was read, and no file changed.
pub record WasRead (name : List ℕ) (old new : Files) : Type 0 where
  pub tells : new.tells ≡ old.tells
  pub files : all_files new ≡ all_files old
  pub there : IsTrue old.tells → IsTrue (old.there name)
  pub steady : IsTrue old.tells → IsTrue old.steady → IsTrue new.steady
  pub faults : new.faults ≡ old.faults
  pub lent : new.lent ≡ old.lent

-- A read of a file failed, and no file changed.
pub record WasUnread (name : List ℕ) (old new : Files) : Type 0 where
  pub tells : new.tells ≡ old.tells
  pub files : all_files new ≡ all_files old
  pub unsteady : IsTrue old.tells → IsTrue old.steady → IsTrue (old.there name) → ⊥
  pub faults : Rose old.faults new.faults
  pub lent : new.lent ≡ old.lent

-- A file of at most so many bytes was read whole: these are its bytes.
pub record ReadWhole (name : List ℕ) (most : ℕ) (old new : Files) (bytes : List ℕ) : Type 0 where
  pub read : WasRead name old new
  pub few : length bytes ≤ most
  pub bytes_are : IsTrue old.tells → bytes ≡ old.file name

-- A file was read that has more than so many bytes.
pub record ReadTooLong (name : List ℕ) (most : ℕ) (old new : Files) : Type 0 where
  pub read : WasRead name old new
  pub many : IsTrue old.tells → most < length (old.file name)

-- What reading a file whole into the front of a buffer does, by how many bytes it has or by the status.
abbrev pub ReadsWhole : List ℕ → List ℕ → Files → Files → Result ℕ Status → Type 0
ReadsWhole name buffer old new (Ok n) = (n ≤ length buffer) × ReadWhole name (length buffer) old new (take n buffer)
ReadsWhole name buffer old new (Err TooLong) = ReadTooLong name (length buffer) old new
ReadsWhole name buffer old new (Err FileFault) = WasUnread name old new
ReadsWhole name buffer old new (Err other) = ⊥

-- Bits are appended to a file, eight in each byte, by some appends that do together what one does.
pub record AppendsBits {T E : Type 0} (name : List ℕ) (bits : List Bool) (old new : Files) (result : Result T E) : Type 0 where
  pub bytes : List ℕ
  pub are : AreBytesOf bits bytes
  pub appends : AppendsTo old new name bytes result
