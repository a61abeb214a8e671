-- Files that are read into memory, and the settings that one gives.
use Rattle.std.specs.Prelude.{◌≡◌, ◌≢◌, ◌⊎◌, ℕ, List, take, Result, Ok, Err, IsTrue, Vec}
use Rattle.std.specs.declared.alloc.Global.{Global}
use Rattle.subscribers.specs.Parts.{Parts}
use Rattle.subscribers.specs.Settings.{settings_of}
use Rattle.subscribers.specs.declared.faults.SettingsFault.{SettingsFault}
use Rattle.subscribers.specs.declared.faults.SettingsFault.TheVariants.{Memory as NoMemory}
use Rattle.wires.specs.Causes.{Rose}
use Rattle.wires.specs.Files.{Files, all_files}
use Rattle.endings.specs.declared.statuses.Status.{Status}
use Rattle.endings.specs.declared.statuses.Status.TheVariants.{FileFault, Memory}
use Rattle.station.specs.declared.outcomes.Outcome.{Outcome}
use Rattle.station.specs.declared.outcomes.Outcome.TheVariants.{Ended, Misread, Refused}

-- of a settings file so many bytes are read at most: one more than it may have
abbrev pub most_of_file : ℕ
most_of_file = 1048577

-- No file of the shelf changed.
pub record KeepsFiles (old new : Files) : Type 0 where
  pub tells : new.tells ≡ old.tells
  pub files : all_files new ≡ all_files old
  pub lent : new.lent ≡ old.lent

-- A file was read, and no fault was counted. A steady shelf is steady.
pub record Unharmed (name : List ℕ) (old new : Files) : Type 0 where
  pub kept : KeepsFiles old new
  pub faults : new.faults ≡ old.faults
  pub steady : IsTrue old.tells → IsTrue old.steady → IsTrue (old.there name) → IsTrue new.steady

-- Reading a file failed, which it doesn't on a steady shelf where the name is there.
pub record Unreadable (name : List ℕ) (old new : Files) : Type 0 where
  pub kept : KeepsFiles old new
  pub unsteady : IsTrue old.tells → IsTrue old.steady → IsTrue (old.there name) → ⊥
  pub faults : Rose old.faults new.faults

-- The file was there, and was read into memory, as far as it is read at most.
pub record ReadInto (name : List ℕ) (old new : Files) (bytes : List ℕ) : Type 0 where
  pub unharmed : Unharmed name old new
  pub there : IsTrue old.tells → IsTrue (old.there name)
  pub bytes_are : IsTrue old.tells → bytes ≡ take most_of_file (old.file name)

-- a file wasn't read into memory: a read failed, or there was no memory
abbrev pub IsUnread : List ℕ → Files → Files → Status → Type 0
IsUnread name old new status = ((status ≡ FileFault) × Unreadable name old new) ⊎ ((status ≡ Memory) × Unharmed name old new)

-- a read of a file into memory
abbrev pub ReadsFile : List ℕ → Files → Files → Result (Vec ℕ Global) Status → Type 0
ReadsFile name old new (Ok bytes) = ReadInto name old new bytes.items
ReadsFile name old new (Err status) = IsUnread name old new status

-- The file was there and was read, and gives these settings. Those of a shelf that doesn't tell are the settings of some bytes.
pub record ReadSettings (name : List ℕ) (old new : Files) (settings : Parts) : Type 0 where
  pub unharmed : Unharmed name old new
  pub there : IsTrue old.tells → IsTrue (old.there name)
  pub settings_are : IsTrue old.tells → settings_of (old.file name) ≡ Ok settings
  pub seen : List ℕ
  pub of_seen : settings_of seen ≡ Ok settings

-- The file was there and was read, and is refused for this fault, which isn't want of memory. Where the shelf doesn't tell, some bytes are
-- refused for it.
pub record RefusedSettings (name : List ℕ) (old new : Files) (fault : SettingsFault) : Type 0 where
  pub unharmed : Unharmed name old new
  pub there : IsTrue old.tells → IsTrue (old.there name)
  pub refused : IsTrue old.tells → settings_of (old.file name) ≡ Err fault
  pub seen : List ℕ
  pub of_seen : settings_of seen ≡ Err fault
  pub not_memory : fault ≢ NoMemory

-- what a command comes to whose settings file is refused so
abbrev pub settings_outcome : SettingsFault → Outcome
settings_outcome NoMemory = Ended Memory
settings_outcome fault = Refused fault

-- a settings file gave none, and this is what a command comes to without them
abbrev pub HasNoSettings : List ℕ → Files → Files → Outcome → Type 0
HasNoSettings name old new (Ended status) = IsUnread name old new status
HasNoSettings name old new (Refused fault) = RefusedSettings name old new fault
HasNoSettings name old new (Misread fault) = ⊥

-- a read of a settings file
abbrev pub ReadsSettings : List ℕ → Files → Files → Result Parts Outcome → Type 0
ReadsSettings name old new (Ok settings) = ReadSettings name old new settings
ReadsSettings name old new (Err outcome) = HasNoSettings name old new outcome
