-- Two runs of `trial` or `twice` over the same objects, where no call fails, come to the same.
use Rattle.std.specs.Prelude.{◌≡◌, ◌≢◌, ℕ, ◌≤◌, Bool, List, length, Ok, IsTrue}
use Rattle.bits.specs.Bits.{bytes_bits}
use Rattle.subscribers.specs.Parts.{Parts}
use Rattle.subscribers.specs.Settings.{settings_of}
use Rattle.tap_terminal.specs.Session.{Session}
use Rattle.wires.specs.Files.{Files}
use Rattle.wires.specs.Stacked.{noisy_bits}
use Rattle.station.specs.declared.outcomes.Outcome.{Outcome}
use Rattle.station.specs.declared.outcomes.Outcome.TheVariants.{Ended}
use Rattle.endings.specs.declared.statuses.Status.TheVariants.{Memory}
use Rattle.station.specs.OneOutcome.{LeftAlike}
use Rattle.station.specs.Rows.{Objects, RunsTrial}
use Rattle.one_block.specs.OneRow.{Streams}
use Rattle.serving.specs.Sent.{IsSent, Times}
use Rattle.serving.specs.TapSessions.{SessionOf}
use Rattle.station.specs.StationRows.{lines_by}
use Rattle.serving.specs.Trying.{trial_lines}

-- The shelf is steady and has both files, the input is steady, and the output too, with room for the lines of the trial.
pub record FitTrial (times : Times) (settings noise : List ℕ) (receivers : List (List ℕ)) (shelf : Files) (streams : Streams) : Type 0 where
  pub tells : IsTrue shelf.tells
  pub steady : IsTrue shelf.steady
  pub there : IsTrue (shelf.there settings)
  pub noise_there : IsTrue (shelf.there noise)
  pub input_tells : IsTrue streams.input.tells
  pub input_steady : IsTrue streams.input.steady
  pub out_tells : IsTrue streams.out.tells
  pub out_steady : IsTrue streams.out.steady
  pub room : (parts : Parts) → settings_of (shelf.file settings) ≡ Ok parts → (session : Session) (air : List Bool) → SessionOf parts parts.cells streams.input.left session → IsSent times session.pages air
      → length (trial_lines (lines_by times receivers) session (noisy_bits air (bytes_bits (shelf.file noise)))) ≤ streams.out.room

-- Over fit objects two runs of `trial` or `twice` that had memory answer the same, and leave the same.
abbrev pub OneTrial : Type 0
OneTrial = (times : Times) (settings noise : List ℕ) (receivers : List (List ℕ)) (old new other : Objects) (outcome another : Outcome) → FitTrial times settings noise receivers old.shelf old.streams
    → RunsTrial times settings noise receivers old new outcome → RunsTrial times settings noise receivers old other another → outcome ≢ Ended Memory → another ≢ Ended Memory
    → (another ≡ outcome) × LeftAlike new other
