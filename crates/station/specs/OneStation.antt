-- Two runs of `station`, and two of `snpp`, over the same objects, where no call fails, come to the same.
use Rattle.std.specs.Prelude.{◌≡◌, ◌≢◌, ℕ, List, Ok, IsTrue}
use Rattle.subscribers.specs.Parts.{Parts}
use Rattle.subscribers.specs.Settings.{settings_of}
use Rattle.station.specs.declared.outcomes.Outcome.{Outcome}
use Rattle.station.specs.declared.outcomes.Outcome.TheVariants.{Ended}
use Rattle.endings.specs.declared.statuses.Status.TheVariants.{Memory}
use Rattle.station.specs.OneOutcome.{LeftAlike}
use Rattle.station.specs.Rows.{Objects, RunsStation, around}
use Rattle.serving.specs.Protocols.{Protocol}
use Rattle.serving.specs.Served.{FitOut, FitShelf, FitWire}
use Rattle.serving.specs.Serving.{Around}

-- The shelf is steady and has the settings file. Where the file gives settings, wire, shelf and output are fit for serving by them.
pub record FitStation (p : Protocol) (settings air : List ℕ) (count : ℕ) (old : Around) : Type 0 where
  pub tells : IsTrue old.shelf.tells
  pub steady : IsTrue old.shelf.steady
  pub there : IsTrue (old.shelf.there settings)
  pub wire : (parts : Parts) → settings_of (old.shelf.file settings) ≡ Ok parts → FitWire p parts parts.cells old.wire count
  pub shelf : (parts : Parts) → settings_of (old.shelf.file settings) ≡ Ok parts → FitShelf p parts parts.cells old.wire old.shelf air count
  pub out : FitOut old.out count

-- Over fit objects two runs of `station`, or of `snpp`, that had memory answer the same, and leave the same.
abbrev pub OneStation : Protocol → Type 0
OneStation p = (address settings air : List ℕ) (count : ℕ) (old new other : Objects) (outcome another : Outcome) → FitStation p settings air count (around old)
    → RunsStation p address settings air count old new outcome → RunsStation p address settings air count old other another → outcome ≢ Ended Memory → another ≢ Ended Memory
    → (another ≡ outcome) × LeftAlike new other
