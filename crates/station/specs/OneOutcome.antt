-- Two runs of a command over the same objects, where no call fails, come to the same.
use Rattle.std.specs.Prelude.{◌≡◌, ◌≢◌, ℕ, ◌*◌, ◌≤◌, Bool, true, List, [], ◌∷◌, length, take, IsTrue}
use Rattle.air.specs.Air.{IsAir}
use Rattle.bits.specs.Bits.{bytes_bits}
use Rattle.sampler.specs.Runs.{sampled_bits}
use Rattle.tap_block.specs.Chars.{characters}
use Rattle.wires.specs.Files.{Files}
use Rattle.wires.specs.Stacked.{are_bytes}
use Rattle.line_writer.specs.LineFile.{CanBeFresh}
use Rattle.endings.specs.declared.statuses.Status.{Status}
use Rattle.endings.specs.declared.statuses.Status.TheVariants.{Memory}
use Rattle.one_block.specs.AlphaPage.{alpha_page}
use Rattle.listening.specs.Listening.{most_bits}
use Rattle.one_block.specs.LoneBlock.{HasText, IsMarkedBlock}
use Rattle.listening.specs.PageLines.{play_lines}
use Rattle.load.specs.Loads.{IsLoad}
use Rattle.load.specs.Report.{load_lines}
use Rattle.load.specs.declared.report.Report.{Report}
use Rattle.station.specs.Rows.{Objects, RunsLoad, RunsOne, RunsPlay, RunsPlayLine, RunsShow, RunsWriteLine}
use Rattle.one_block.specs.OneRow.{Streams}
use Rattle.listening.specs.Table.{table_of}
use Rattle.endings.specs.Wrote.{FitFor}
use Rattle.wires.specs.Written.{Written}

-- Two runs left the same bytes: in the output, in each file, and said on each connection. What was read at a time, and how far a
-- connection was read beyond the end of its session, may differ.
pub record LeftAlike (new other : Objects) : Type 0 where
  pub out : other.streams.out.held ≡ new.streams.out.held
  pub there : (name : List ℕ) → other.shelf.there name ≡ new.shelf.there name
  pub files : (name : List ℕ) → other.shelf.file name ≡ new.shelf.file name
  pub said : (k : ℕ) → (other.wire.connection k).said ≡ (new.wire.connection k).said

-- The shelf is steady, and the file is there.
pub record FitFile (name : List ℕ) (shelf : Files) : Type 0 where
  pub tells : IsTrue shelf.tells
  pub steady : IsTrue shelf.steady
  pub there : IsTrue (shelf.there name)

-- the bits of a file that are listened to: those of its first 67,108,864 bytes
abbrev pub bits_listened : List ℕ → Files → List Bool
bits_listened name shelf = take most_bits (bytes_bits (shelf.file name))

-- Over a steady shelf that has the file, and a steady output with room for the lines, two runs of `play` that had memory answer the
-- same, and leave the same.
abbrev pub OnePlay : Type 0
OnePlay = (receivers : List (List ℕ)) (air : List ℕ) (old new other : Objects) (status another : Status) → FitFile air old.shelf → FitFor old.streams.out (play_lines receivers (bits_listened air old.shelf))
    → RunsPlay receivers air old new status → RunsPlay receivers air old other another → status ≢ Memory → another ≢ Memory
    → (another ≡ status) × LeftAlike new other

-- the same of `play-line`, where the bits are those of the samples in the first 67,108,864 bytes
abbrev pub OnePlayLine : Type 0
OnePlayLine = (receivers : List (List ℕ)) (line : List ℕ) (old new other : Objects) (status another : Status) → FitFile line old.shelf
    → FitFor old.streams.out (play_lines receivers (sampled_bits (bits_listened line old.shelf)))
    → RunsPlayLine receivers line old new status → RunsPlayLine receivers line old other another → status ≢ Memory → another ≢ Memory
    → (another ≡ status) × LeftAlike new other

-- The shelf is steady, and the file `air` is there. The file `line` is there or may be added, and gets room for the samples.
pub record FitWriteLine (air line : List ℕ) (shelf : Files) : Type 0 where
  pub tells : IsTrue shelf.tells
  pub steady : IsTrue shelf.steady
  pub there : IsTrue (shelf.there air)
  pub fresh : CanBeFresh line shelf
  pub room : 8 * length (shelf.file air) ≤ shelf.fresh_room

-- Over a fit shelf two runs of `line` that had memory answer the same, and leave the same.
abbrev pub OneWriteLine : Type 0
OneWriteLine = (air line : List ℕ) (seed : ℕ) (old new other : Objects) (status another : Status) → FitWriteLine air line old.shelf
    → RunsWriteLine air line seed old new status → RunsWriteLine air line seed old other another → status ≢ Memory → another ≢ Memory
    → (another ≡ status) × LeftAlike new other

-- the same of `show`, which takes no memory
abbrev pub OneShow : Type 0
OneShow = (air : List ℕ) (old new other : Objects) (status another : Status) → FitFile air old.shelf → FitFor old.streams.out (table_of (bits_listened air old.shelf))
    → RunsShow air old new status → RunsShow air old other another
    → (another ≡ status) × LeftAlike new other

-- The input is steady, and the output too, which holds bytes and has room for the transmission of the page of the input.
pub record FitOne (capcode : ℕ) (old : Streams) : Type 0 where
  pub input_tells : IsTrue old.input.tells
  pub input_steady : IsTrue old.input.steady
  pub tells : IsTrue old.out.tells
  pub steady : IsTrue old.out.steady
  pub of_bytes : IsTrue (are_bytes old.out.held)
  pub room : (body text : List ℕ) (bits : List Bool) → IsMarkedBlock (characters old.input.left) body true → HasText body text → IsAir (alpha_page capcode text ∷ []) bits
      → length bits ≤ 8 * old.out.room

-- Over a steady input and a steady output with room, two runs of `one` that had memory answer the same, and leave the same.
abbrev pub OneOne : Type 0
OneOne = (capcode : ℕ) (old new other : Objects) (status another : Status) → FitOne capcode old.streams
    → RunsOne capcode old new status → RunsOne capcode old other another → status ≢ Memory → another ≢ Memory
    → (another ≡ status) × LeftAlike new other

-- The output is steady, and has room for the six lines of the run.
pub record FitLoad (seed count : ℕ) (out : Written ℕ) : Type 0 where
  pub tells : IsTrue out.tells
  pub steady : IsTrue out.steady
  pub room : (report : Report) → IsLoad seed count report → length (load_lines report) ≤ out.room

-- Over a steady output with room, two runs of `load` that had memory answer the same, and leave the same.
abbrev pub OneLoad : Type 0
OneLoad = (seed count : ℕ) (old new other : Objects) (status another : Status) → FitLoad seed count old.streams.out
    → RunsLoad seed count old new status → RunsLoad seed count old other another → status ≢ Memory → another ≢ Memory
    → (another ≡ status) × LeftAlike new other
