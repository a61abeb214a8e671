-- The command `send`, from its pages on.
use Rattle.std.specs.Prelude.{ℕ, List, IsTrue}
use Rattle.tap_entry.specs.PagesFile.{IsFile, IsFileRefused, FileContent}
use Rattle.tap_entry.specs.declared.faults.PagesFault.{PagesFault}
use Rattle.tap_entry.specs.declared.faults.PagesFault.TheVariants as Pages
use Rattle.wires.specs.Files.{Files}
use Rattle.station.specs.declared.outcomes.Outcome.{Outcome}
use Rattle.station.specs.declared.outcomes.Outcome.TheVariants.{Ended, Misread, Refused}
use Rattle.endings.specs.declared.statuses.Status.{Status}
use Rattle.endings.specs.declared.statuses.Status.TheVariants.{FileFault, Memory}
use Rattle.calling.specs.Calls.{HasSent}
use Rattle.station.specs.ReadFile.{Unharmed, Unreadable}
use Rattle.serving.specs.Serving.{Around}
use Rattle.station.specs.StationRows.{LeavesWireAndOut}

-- The file was there and was read, and says these pages. Where the shelf doesn't tell, some bytes say them.
pub record ReadPages (name : List ℕ) (old new : Files) (told : FileContent) : Type 0 where
  pub unharmed : Unharmed name old new
  pub there : IsTrue old.tells → IsTrue (old.there name)
  pub pages_are : IsTrue old.tells → IsFile (old.file name) told
  pub seen : List ℕ
  pub of_seen : IsFile seen told

-- The file was there and was read, and is refused for this fault. Where the shelf doesn't tell, some bytes are refused for it.
pub record RefusedPages (name : List ℕ) (old new : Files) (fault : PagesFault) : Type 0 where
  pub unharmed : Unharmed name old new
  pub there : IsTrue old.tells → IsTrue (old.there name)
  pub refused : IsTrue old.tells → IsFileRefused (old.file name) fault
  pub seen : List ℕ
  pub of_seen : IsFileRefused seen fault

-- The pages were read, and a client sent them to the address. No file changed.
pub record SentBy (address name : List ℕ) (old new : Around) (status : Status) : Type 0 where
  pub told : FileContent
  pub read : ReadPages name old.shelf new.shelf told
  pub sends : HasSent told address old.wire new.wire old.out new.out status

-- `send`, by what it came to
abbrev pub SendRow : List ℕ → List ℕ → Around → Around → Outcome → Type 0
SendRow address name old new (Refused fault) = ⊥
SendRow address name old new (Misread Pages.Memory) = ⊥
SendRow address name old new (Misread fault) = RefusedPages name old.shelf new.shelf fault × LeavesWireAndOut old new
SendRow address name old new (Ended Memory) = Unharmed name old.shelf new.shelf × LeavesWireAndOut old new
SendRow address name old new (Ended FileFault) = Unreadable name old.shelf new.shelf × LeavesWireAndOut old new
SendRow address name old new (Ended status) = SentBy address name old new status

-- what a command comes to whose pages file is refused so
abbrev pub pages_outcome : PagesFault → Outcome
pages_outcome Pages.Memory = Ended Memory
pages_outcome fault = Misread fault
