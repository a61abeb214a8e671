-- A call that sends pages, from dialling to hanging up, and the statuses of the command that makes it.
use Rattle.std.specs.Prelude.{◌≡◌, ◌≢◌, ◌⊎◌, ℕ, ◌+◌, ◌*◌, ◌≤◌, ◌<◌, Bool, List, ◌++◌, length, if◌then◌else◌, take, IsTrue, IsFalse}
use Rattle.tap_entry.specs.declared.outcomes.Outcome.{Outcome}
use Rattle.tap_entry.specs.declared.outcomes.Outcome.TheVariants.{NoLogon}
use Rattle.tap_entry.specs.Client.{all_are}
use Rattle.tap_entry.specs.PagesFile.{FileContent}
use Rattle.wires.specs.Causes.{Rose}
use Rattle.wires.specs.Line.{IsBlank, KeepsConnections, KeepsLineAndHang, Line}
use Rattle.wires.specs.Written.{Written}
use Rattle.calling.specs.declared.stages.Ending.{Ending}
use Rattle.calling.specs.declared.stages.Ending.TheVariants.{Over, Lost}
use Rattle.calling.specs.declared.stages.Logon.TheVariants.{Pending, Granted}
use Rattle.endings.specs.declared.statuses.Status.{Status}
use Rattle.endings.specs.declared.statuses.Status.TheVariants.{Done, WireFault, OutFault, LogonRefused, SomeUnsent}
use Rattle.calling.specs.Conversations.{Came, HasRoom}
use Rattle.calling.specs.OutcomeLines.{all_sent, outcome_lines}
use Rattle.calling.specs.Progress.{IsLogon, logon_of}
use Rattle.endings.specs.Talk.{here}

-- The next connection was opened, to this address. It is blank.
pub record IsDialled (address : List ℕ) (old new : Line) : Type 0 where
  pub tells : new.tells ≡ old.tells
  pub count : new.count ≡ old.count
  pub lent : new.lent ≡ old.lent
  pub connections : KeepsConnections old new
  pub asked : IsTrue old.tells → new.asked ≡ address
  pub opened : IsTrue old.tells → (old.opened < old.count) × (new.opened ≡ old.opened + 1) × IsTrue new.is_open
  pub blank : IsTrue old.tells → IsBlank (here new)
  pub gate : new.gate ≡ old.gate
  pub others : KeepsLineAndHang old new
  pub steady : IsTrue old.tells → IsTrue old.steady → old.opened < old.count → IsTrue new.steady

-- Dialling this address failed, and no connection is open. Over a steady wire with a connection left it doesn't fail.
pub record IsUndialled (address : List ℕ) (old new : Line) : Type 0 where
  pub tells : new.tells ≡ old.tells
  pub count : new.count ≡ old.count
  pub lent : new.lent ≡ old.lent
  pub connections : KeepsConnections old new
  pub asked : IsTrue old.tells → new.asked ≡ address
  pub opened : IsTrue old.tells → (new.opened ≡ old.opened) × IsFalse new.is_open
  pub gate : Rose old.gate new.gate
  pub others : KeepsLineAndHang old new
  pub unsteady : IsTrue old.tells → IsTrue old.steady → old.opened < old.count → ⊥

-- The connection was hung up, or that failed and the line is lost. It is closed in both cases.
abbrev pub HungUp : Line → Line → Ending → Ending → Type 0
HungUp old new spoke ending = ((ending ≡ spoke) × (new.hang ≡ old.hang)) ⊎ ((ending ≡ Lost (logon_of spoke)) × Rose old.hang new.hang)

-- A connection was dialled to this address, a call was made over it, and it was hung up. The ending tells whether Go was heard.
pub record HasCalled (told : FileContent) (address : List ℕ) (old new : Line) (outcomes : List Outcome) (ending : Ending) : Type 0 where
  pub dialled : Line
  pub spoke : Ending
  pub opens : IsDialled address old dialled
  pub asked : IsTrue old.tells → new.asked ≡ address
  pub came : Came told dialled new outcomes spoke
  pub logon : IsLogon (logon_of ending) came.marks
  pub shut : IsTrue old.tells → IsFalse new.is_open
  pub hung : HungUp old new spoke ending
  pub well : IsTrue old.tells → IsTrue old.steady → old.opened < old.count → HasRoom told (old.connection old.opened) → (new.hang ≡ old.hang) × IsTrue new.steady × (ending ≡ Over (logon_of ending))

-- No connection was dialled to this address, and every page is NoLogon.
pub record HasNotCalled (told : FileContent) (address : List ℕ) (old new : Line) (outcomes : List Outcome) (ending : Ending) : Type 0 where
  pub failed : IsUndialled address old new
  pub outcomes_are : outcomes ≡ all_are NoLogon told.pages
  pub ending_is : ending ≡ Lost Pending

-- a call was made, or dialling failed
abbrev pub CallsUp : FileContent → List ℕ → Line → Line → List Outcome → Ending → Type 0
CallsUp told address old new outcomes ending = HasCalled told address old new outcomes ending ⊎ HasNotCalled told address old new outcomes ending

-- the status for how a call ended, and for whether every page is Sent
abbrev pub status_of : Ending → Bool → Status
status_of (Lost logon) sent = WireFault
status_of (Over Pending) sent = LogonRefused
status_of (Over Granted) sent = if sent then Done else SomeUnsent

-- No count of the wire's faults rose.
pub record NoneRose (old new : Line) : Type 0 where
  pub gate : new.gate ≡ old.gate
  pub hear : new.hear ≡ old.hear
  pub say : new.say ≡ old.say
  pub hang : new.hang ≡ old.hang

-- a count of the wire's faults rose
abbrev pub SomeRose : Line → Line → Type 0
SomeRose old new = Rose old.gate new.gate ⊎ (Rose old.hear new.hear ⊎ (Rose old.say new.say ⊎ Rose old.hang new.hang))

-- The lines of all pages were put. A steady output with room for them is steady.
pub record PutLines (old new : Written ℕ) (outcomes : List Outcome) : Type 0 where
  pub tells : new.tells ≡ old.tells
  pub held : IsTrue old.tells → new.held ≡ old.held ++ outcome_lines outcomes
  pub room : IsTrue old.tells → new.room + length (outcome_lines outcomes) ≡ old.room
  pub steady : IsTrue old.tells → IsTrue old.steady → length (outcome_lines outcomes) ≤ old.room → IsTrue new.steady
  pub faults : new.faults ≡ old.faults
  pub lent : new.lent ≡ old.lent

-- A put failed, and a front of the lines was put.
pub record PutFront (old new : Written ℕ) (outcomes : List Outcome) : Type 0 where
  pub tells : new.tells ≡ old.tells
  pub held : IsTrue old.tells → (n : ℕ) × (n ≤ length (outcome_lines outcomes)) × (new.held ≡ old.held ++ take n (outcome_lines outcomes))
  pub room : IsTrue old.tells → new.room + length new.held ≡ old.room + length old.held
  pub faults : Rose old.faults new.faults
  pub lent : new.lent ≡ old.lent
  pub unsteady : IsTrue old.tells → IsTrue old.steady → length (outcome_lines outcomes) ≤ old.room → ⊥

-- The call was made and no count of the wire's faults rose. Its logon, and whether every page is Sent, are these.
pub record WentWell (told : FileContent) (address : List ℕ) (old new : Line) (outcomes : List Outcome) (ending : Ending) : Type 0 where
  pub called : HasCalled told address old new outcomes ending
  pub none_rose : NoneRose old new

-- What each status of sending pages says of the outcomes, the wire and the output.
abbrev pub SendsSo : FileContent → List ℕ → Line → Line → Written ℕ → Written ℕ → List Outcome → Status → Type 0
SendsSo told address old new out0 out1 outcomes Done = WentWell told address old new outcomes (Over Granted) × IsTrue (all_sent outcomes) × PutLines out0 out1 outcomes
SendsSo told address old new out0 out1 outcomes LogonRefused = WentWell told address old new outcomes (Over Pending) × PutLines out0 out1 outcomes
SendsSo told address old new out0 out1 outcomes SomeUnsent = WentWell told address old new outcomes (Over Granted) × IsFalse (all_sent outcomes) × PutLines out0 out1 outcomes
SendsSo told address old new out0 out1 outcomes WireFault = ((ending : Ending) × CallsUp told address old new outcomes ending) × SomeRose old new × PutLines out0 out1 outcomes
SendsSo told address old new out0 out1 outcomes OutFault = ((ending : Ending) × CallsUp told address old new outcomes ending) × PutFront out0 out1 outcomes
SendsSo told address old new out0 out1 outcomes other = ⊥

-- Pages were sent to this address: these became their outcomes. Over a steady wire with a connection left that has room for what is due, no count of
-- faults rose, the wire is steady, and the status isn't WireFault. Over a steady output with room for the lines none rose, and the status isn't OutFault.
pub record HasSent (told : FileContent) (address : List ℕ) (old new : Line) (out0 out1 : Written ℕ) (status : Status) : Type 0 where
  pub outcomes : List Outcome
  pub sends : SendsSo told address old new out0 out1 outcomes status
  pub wire_well : IsTrue old.tells → IsTrue old.steady → old.opened < old.count → HasRoom told (old.connection old.opened) → NoneRose old new × IsTrue new.steady × (status ≢ WireFault)
  pub out_well : IsTrue out0.tells → IsTrue out0.steady → 20 * length told.pages ≤ out0.room → (out1.faults ≡ out0.faults) × (status ≢ OutFault)
