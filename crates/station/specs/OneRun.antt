-- Two runs of the same words over the same objects, where no call fails, come to the same.
use Rattle.std.specs.Prelude.{◌≡◌, ◌≢◌, ℕ, ◌≤◌, List, length, Option, Some, None, IsTrue}
use Rattle.station.specs.declared.outcomes.Outcome.{Outcome}
use Rattle.sampler.specs.Runs.{sampled_bits}
use Rattle.endings.specs.declared.statuses.Status.{Status}
use Rattle.endings.specs.declared.statuses.Status.TheVariants.{Memory}
use Rattle.command_lines.specs.Commands.{AreCommand, Command, Load, One, Play, PlayLine, Send, Show, Snpp, Station, Trial, Twice, WriteLine}
use Rattle.station.specs.OneOutcome.{FitFile, FitLoad, FitOne, FitWriteLine, LeftAlike, bits_listened}
use Rattle.station.specs.OneSend.{FitSend}
use Rattle.station.specs.OneStation.{FitStation}
use Rattle.station.specs.OneTrial.{FitTrial}
use Rattle.station.specs.Outcomes.{line_about}
use Rattle.listening.specs.PageLines.{play_lines}
use Rattle.station.specs.Rows.{Acts, Objects, Outside, Runs, around}
use Rattle.listening.specs.Table.{table_of}
use Rattle.serving.specs.Protocols.{snpp, tap}
use Rattle.endings.specs.Wrote.{FitFor}
use Rattle.serving.specs.Sent.{once, twice}

-- the objects are fit for a command
abbrev pub FitRun : Option Command → Objects → Type 0
FitRun None old = Unit {0}
FitRun (Some (One capcode)) old = FitOne capcode old.streams
FitRun (Some (Load seed count)) old = FitLoad seed count old.streams.out
FitRun (Some (Play air receivers)) old = FitFile air old.shelf × FitFor old.streams.out (play_lines receivers (bits_listened air old.shelf))
FitRun (Some (PlayLine line receivers)) old = FitFile line old.shelf × FitFor old.streams.out (play_lines receivers (sampled_bits (bits_listened line old.shelf)))
FitRun (Some (WriteLine air line seed)) old = FitWriteLine air line old.shelf
FitRun (Some (Show air)) old = FitFile air old.shelf × FitFor old.streams.out (table_of (bits_listened air old.shelf))
FitRun (Some (Station address settings air count)) old = FitStation tap settings air count (around old)
FitRun (Some (Snpp address settings air count)) old = FitStation snpp settings air count (around old)
FitRun (Some (Trial settings noise receivers)) old = FitTrial once settings noise receivers old.shelf old.streams
FitRun (Some (Twice settings noise receivers)) old = FitTrial twice settings noise receivers old.shelf old.streams
FitRun (Some (Send address pages)) old = FitSend pages (around old)

-- The output of errors is steady, and has room for the line about whatever the command may come to.
pub record FitErr (command : Option Command) (old : Outside) : Type 0 where
  pub tells : IsTrue old.err.tells
  pub steady : IsTrue old.err.steady
  pub room : (new : Objects) (outcome : Outcome) → Acts command old.objects new outcome → length (line_about outcome) ≤ old.err.room

-- Two runs answer the same, and leave the same bytes in the output, in the output of errors, in each file, and said on each connection.
pub record SameRun (new other : Outside) (result another : Status) : Type 0 where
  pub ends_alike : another ≡ result
  pub left_alike : LeftAlike new.objects other.objects
  pub err_alike : other.err.held ≡ new.err.held

-- Words are one command's or none's, and over objects that are fit for it two runs that had memory come to the same.
abbrev pub OneRun : Type 0
OneRun = (words : List (List ℕ)) (command : Option Command) (old new other : Outside) (result another : Status) → AreCommand words command → FitRun command old.objects → FitErr command old
    → Runs words old new result → Runs words old other another → result ≢ Memory → another ≢ Memory → SameRun new other result another
