-- What commands come to, and the lines about it.
use Rattle.std.specs.Prelude.{◌≡◌, ℕ, List, ◌++◌, codes, decimal}
use Rattle.subscribers.specs.declared.faults.SettingsFault.{SettingsFault}
use Rattle.subscribers.specs.declared.faults.SettingsFault.TheVariants as Fault
use Rattle.tap_entry.specs.declared.faults.PagesFault.{PagesFault}
use Rattle.tap_entry.specs.declared.faults.PagesFault.TheVariants as Pages
use Rattle.wires.specs.Written.{Written}
use Rattle.station.specs.declared.outcomes.Outcome.{Outcome}
use Rattle.station.specs.declared.outcomes.Outcome.TheVariants.{Ended, Misread, Refused}
use Rattle.endings.specs.declared.statuses.Status.{Status}
use Rattle.endings.specs.declared.statuses.Status.TheVariants.{BadPages, Done, OutFault, Settings}
use Rattle.endings.specs.Statuses.{status_line}
use Rattle.endings.specs.Wrote.{FitFor, StaysWell, Wrote, WroteFront}

-- what is said of a settings file that is refused. The numbers count subscribers, or groups, from 1
abbrev pub fault_text : SettingsFault → List ℕ
fault_text Fault.Long = codes "too long"
fault_text Fault.NotToml = codes "not toml"
fault_text Fault.Version = codes "version"
fault_text Fault.Form = codes "form"
fault_text Fault.Password = codes "password"
fault_text Fault.Cells = codes "cells"
fault_text Fault.TooMany = codes "too many"
fault_text (Fault.Id n) = codes "id at entry " ++ decimal n
fault_text (Fault.IdTwice n) = codes "id twice at entry " ++ decimal n
fault_text (Fault.Capcode n) = codes "capcode at entry " ++ decimal n
fault_text (Fault.Class n) = codes "class at entry " ++ decimal n
fault_text (Fault.GroupId n) = codes "id at group " ++ decimal n
fault_text (Fault.GroupIdTwice n) = codes "id twice at group " ++ decimal n
fault_text (Fault.GroupMembers n) = codes "members at group " ++ decimal n
fault_text (Fault.GroupClass n) = codes "class at group " ++ decimal n
fault_text Fault.Memory = codes "memory"

-- the line about a settings file that is refused
abbrev pub settings_line : SettingsFault → List ℕ
settings_line fault = codes "pocsag: settings: " ++ fault_text fault ++ codes "\n"

-- what is said of a pages file that is refused. The numbers count lines from 1
abbrev pub pages_text : PagesFault → List ℕ
pages_text Pages.Long = codes "too long"
pages_text (Pages.Line n) = codes "line " ++ decimal n
pages_text Pages.Memory = codes "memory"

-- the line about a pages file that is refused
abbrev pub pages_line : PagesFault → List ℕ
pages_line fault = codes "pocsag: pages file: " ++ pages_text fault ++ codes "\n"

-- The line about a status was put to err, for the statuses that have one. Where putting it failed, the run ends with OutFault.
abbrev pub Tells : Status → Written ℕ → Written ℕ → Status → Type 0
Tells Done old new result = (result ≡ Done) × (new ≡ old)
Tells OutFault old new result = (result ≡ OutFault) × (new ≡ old)
Tells Settings old new result = (result ≡ Settings) × (new ≡ old)
Tells BadPages old new result = (result ≡ BadPages) × (new ≡ old)
Tells status old new OutFault = WroteFront old new (status_line status)
Tells status old new result = (result ≡ status) × Wrote old new (status_line status)

-- The line about a refused settings file was put to err, and the run ends with Settings. Where putting it failed, it ends with OutFault.
abbrev pub TellsRefusal : SettingsFault → Written ℕ → Written ℕ → Status → Type 0
TellsRefusal fault old new OutFault = WroteFront old new (settings_line fault)
TellsRefusal fault old new result = (result ≡ Settings) × Wrote old new (settings_line fault)

-- The same of a refused pages file, with BadPages.
abbrev pub TellsMisread : PagesFault → Written ℕ → Written ℕ → Status → Type 0
TellsMisread fault old new OutFault = WroteFront old new (pages_line fault)
TellsMisread fault old new result = (result ≡ BadPages) × Wrote old new (pages_line fault)

-- the line about what a command came to was put to err
abbrev pub TellsOutcome : Outcome → Written ℕ → Written ℕ → Status → Type 0
TellsOutcome (Ended status) old new result = Tells status old new result
TellsOutcome (Refused fault) old new result = TellsRefusal fault old new result
TellsOutcome (Misread fault) old new result = TellsMisread fault old new result

-- the line about what a command came to
abbrev pub line_about : Outcome → List ℕ
line_about (Ended status) = status_line status
line_about (Refused fault) = settings_line fault
line_about (Misread fault) = pages_line fault

-- Over a steady err with room for the line no write failed, and it is steady. The run ends with OutFault only where the command did.
abbrev pub ErrWell : Outcome → Written ℕ → Written ℕ → Status → Type 0
ErrWell outcome old new result = FitFor old (line_about outcome) → (result ≡ OutFault → outcome ≡ Ended OutFault) × StaysWell old new
