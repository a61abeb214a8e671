-- What a run does, command by command and status by status.
use Rattle.std.specs.Prelude.{◌≡◌, ℕ, List, Option, Some, None}
use Rattle.bits.specs.Bits.{bytes_bits}
use Rattle.wires.specs.Files.{Files}
use Rattle.wires.specs.Line.{Line}
use Rattle.wires.specs.Written.{Written}
use Rattle.endings.specs.declared.statuses.Status.{Status}
use Rattle.endings.specs.declared.statuses.Status.TheVariants.{Usage}
use Rattle.command_lines.specs.Commands.{AreCommand, Command, Load, One, Play, PlayLine, Send, Show, Snpp, Station, Trial, Twice, WriteLine}
use Rattle.one_block.specs.OneRow.{OneRow, Streams}
use Rattle.load.specs.Loads.{Loads}
use Rattle.listening.specs.HeardFile.{HearsFile, Plays}
use Rattle.listening.specs.HeardLine.{PlaysSamples}
use Rattle.line_writer.specs.LineFile.{WritesLine}
use Rattle.listening.specs.PageLines.{play_lines}
use Rattle.station.specs.Promises.{HearNear, HearNearLine, StationPromise, TrialPromise, TwicePromise}
use Rattle.station.specs.Outcomes.{ErrWell, TellsOutcome}
use Rattle.station.specs.declared.outcomes.Outcome.{Outcome}
use Rattle.station.specs.declared.outcomes.Outcome.TheVariants.{Ended, Misread, Refused}
use Rattle.station.specs.SendRows.{SendRow}
use Rattle.serving.specs.Protocols.{Protocol, snpp, tap}
use Rattle.serving.specs.Serving.{Around}
use Rattle.serving.specs.Sent.{Times, once, twice}
use Rattle.station.specs.StationRows.{StationRow, TrialRow}
use Rattle.listening.specs.Table.{table_of}

-- what the objects of a command tell: the wire, the shelf, and the input and the output
pub record Objects : Type 0 where
  pub wire : Line
  pub shelf : Files
  pub streams : Streams

-- what serving connections uses of them
abbrev pub around : Objects → Around
around objects = record { wire = objects.wire; shelf = objects.shelf; out = objects.streams.out }

-- `one`: wire and shelf are as before
pub record RunsOne (capcode : ℕ) (old new : Objects) (status : Status) : Type 0 where
  pub row : OneRow capcode old.streams new.streams status
  pub wire : new.wire ≡ old.wire
  pub shelf : new.shelf ≡ old.shelf

-- `load`: the six lines about the run of the seed, with so many pages, were put. Wire, shelf and input are as before.
pub record RunsLoad (seed count : ℕ) (old new : Objects) (status : Status) : Type 0 where
  pub row : Loads seed count old.streams.out new.streams.out status
  pub wire : new.wire ≡ old.wire
  pub shelf : new.shelf ≡ old.shelf
  pub input : new.streams.input ≡ old.streams.input

-- `play` and `show`: what is heard of the bits of a file was printed. Wire and input are as before. Where there was no memory for
-- the receivers of `play`, nothing is touched.
pub record RunsPlay (receivers : List (List ℕ)) (air : List ℕ) (old new : Objects) (status : Status) : Type 0 where
  pub row : Plays (play_lines receivers) air old.shelf new.shelf old.streams.out new.streams.out status
  pub wire : new.wire ≡ old.wire
  pub input : new.streams.input ≡ old.streams.input

-- `play-line`: what is heard of the bits of the samples in a file was printed. The rest is as for `play`.
pub record RunsPlayLine (receivers : List (List ℕ)) (line : List ℕ) (old new : Objects) (status : Status) : Type 0 where
  pub row : PlaysSamples (play_lines receivers) line old.shelf new.shelf old.streams.out new.streams.out status
  pub wire : new.wire ≡ old.wire
  pub input : new.streams.input ≡ old.streams.input

-- `line`: the samples of the bits of the file `air` were written to the file `line`. All else is as before.
pub record RunsWriteLine (air line : List ℕ) (seed : ℕ) (old new : Objects) (status : Status) : Type 0 where
  pub row : WritesLine air line seed old.shelf new.shelf status
  pub wire : new.wire ≡ old.wire
  pub streams : new.streams ≡ old.streams

pub record RunsShow (air : List ℕ) (old new : Objects) (status : Status) : Type 0 where
  pub row : HearsFile table_of air old.shelf new.shelf old.streams.out new.streams.out status
  pub wire : new.wire ≡ old.wire
  pub input : new.streams.input ≡ old.streams.input

-- `station` and `snpp`, by their protocol: the settings file was read, and connections at the address were served by its settings; wire, shelf and output are told by `Around`. Where
-- reading the file failed, where it is refused, and where there was no memory, nothing else was touched. The input is as before.
pub record RunsStation (p : Protocol) (address settings air : List ℕ) (count : ℕ) (old new : Objects) (outcome : Outcome) : Type 0 where
  pub row : StationRow p address settings air count (around old) (around new) outcome
  pub input : new.streams.input ≡ old.streams.input

-- `trial` and `twice`: the settings file was read, and the session of the input tried by its settings. Where reading the file failed, where it is
-- refused, and where there was no memory, nothing else was touched. The wire is as before.
pub record RunsTrial (times : Times) (settings noise : List ℕ) (receivers : List (List ℕ)) (old new : Objects) (outcome : Outcome) : Type 0 where
  pub row : TrialRow times settings noise receivers old.streams.input new.streams.input old.shelf new.shelf old.streams.out new.streams.out outcome
  pub wire : new.wire ≡ old.wire

-- `send`: the pages file was read, and a client sent its pages to the address. Where reading the file failed, where it is refused, and where there was
-- no memory, nothing else was touched. The input is as before.
pub record RunsSend (address pages : List ℕ) (old new : Objects) (outcome : Outcome) : Type 0 where
  pub row : SendRow address pages (around old) (around new) outcome
  pub input : new.streams.input ≡ old.streams.input

-- an outcome that is a status
abbrev pub HasEndedSo : (Status → Type 0) → Outcome → Type 0
HasEndedSo row (Ended status) = row status
HasEndedSo row (Refused fault) = ⊥
HasEndedSo row (Misread fault) = ⊥

-- what a run's command did: words that are no command's form are answered Usage, and nothing is touched
abbrev pub Acts : Option Command → Objects → Objects → Outcome → Type 0
Acts None old new outcome = (outcome ≡ Ended Usage) × (new ≡ old)
Acts (Some (One capcode)) old new outcome = HasEndedSo (RunsOne capcode old new) outcome
Acts (Some (Load seed count)) old new outcome = HasEndedSo (RunsLoad seed count old new) outcome
Acts (Some (Play air receivers)) old new outcome = HasEndedSo (RunsPlay receivers air old new) outcome
Acts (Some (PlayLine line receivers)) old new outcome = HasEndedSo (RunsPlayLine receivers line old new) outcome
Acts (Some (WriteLine air line seed)) old new outcome = HasEndedSo (RunsWriteLine air line seed old new) outcome
Acts (Some (Show air)) old new outcome = HasEndedSo (RunsShow air old new) outcome
Acts (Some (Station address settings air count)) old new outcome = RunsStation tap address settings air count old new outcome
Acts (Some (Snpp address settings air count)) old new outcome = RunsStation snpp address settings air count old new outcome
Acts (Some (Trial settings noise receivers)) old new outcome = RunsTrial once settings noise receivers old new outcome
Acts (Some (Twice settings noise receivers)) old new outcome = RunsTrial twice settings noise receivers old new outcome
Acts (Some (Send address pages)) old new outcome = RunsSend address pages old new outcome

-- What a command promises of the pages that receivers hear: `play` of the bits of its file, `play-line` of the samples in its file, `trial` and `twice` of the session that they tried, and
-- `station` and `snpp` of the transmissions that they sent. What `load` promises of its pages is part of its report.
abbrev pub Promises : (command : Option Command) (old new : Objects) (outcome : Outcome) → Acts command old new outcome → Type 0
Promises None old new outcome acts = Unit {0}
Promises (Some (One capcode)) old new outcome acts = Unit {0}
Promises (Some (Load seed count)) old new outcome acts = Unit {0}
Promises (Some (Play air receivers)) old new outcome acts = HearNear receivers (bytes_bits (old.shelf.file air))
Promises (Some (PlayLine line receivers)) old new outcome acts = HearNearLine receivers (bytes_bits (old.shelf.file line))
Promises (Some (WriteLine air line seed)) old new outcome acts = Unit {0}
Promises (Some (Show air)) old new outcome acts = Unit {0}
Promises (Some (Send address pages)) old new outcome acts = Unit {0}
Promises (Some (Station address settings air count)) old new outcome acts = StationPromise tap address settings air count (around old) (around new) outcome acts.row
Promises (Some (Snpp address settings air count)) old new outcome acts = StationPromise snpp address settings air count (around old) (around new) outcome acts.row
Promises (Some (Trial settings noise receivers)) old new outcome acts =
    TrialPromise settings noise receivers old.streams.input new.streams.input old.shelf new.shelf old.streams.out new.streams.out outcome acts.row
Promises (Some (Twice settings noise receivers)) old new outcome acts =
    TwicePromise settings noise receivers old.streams.input new.streams.input old.shelf new.shelf old.streams.out new.streams.out outcome acts.row

-- what all objects of a run tell
pub record Outside : Type 0 where
  pub objects : Objects
  pub err : Written ℕ

-- A run: the command of its words, what the command came to and what it promises, and the line about it, which a steady err with room
-- for it gets.
pub record Runs (words : List (List ℕ)) (old new : Outside) (result : Status) : Type 0 where
  pub command : Option Command
  pub words_are : AreCommand words command
  pub outcome : Outcome
  pub acts : Acts command old.objects new.objects outcome
  pub promises : Promises command old.objects new.objects outcome acts
  pub tells : TellsOutcome outcome old.err new.err result
  pub err_well : ErrWell outcome old.err new.err result
