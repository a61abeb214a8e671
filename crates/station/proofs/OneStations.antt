-- What `station` and `snpp` come to where no call fails.
use Rattle.std.proofs.Common.{◌≡◌, ◌≢◌, ℕ, ◌*◌, ◌≤◌, ◌⊎◌, inl, inr, List, length, Ok, Err, IsTrue, refl, sym, ◌∙◌, ap, subst, arith}
use Rattle.subscribers.specs.Parts.{Parts}
use Rattle.subscribers.specs.Settings.{settings_of}
use Rattle.subscribers.specs.declared.faults.SettingsFault.{SettingsFault}
use Rattle.wires.proofs.Written.{still}
use Rattle.wires.specs.Files.{Files, all_files, longest_name}
use Rattle.wires.specs.Held.{OtherFiles}
use Rattle.wires.specs.Line.{Line}
use Rattle.wires.specs.Written.{Written}
use Rattle.station.specs.declared.outcomes.Outcome.{Outcome}
use Rattle.station.specs.declared.outcomes.Outcome.TheVariants.{Ended, Misread, Refused}
use Rattle.endings.specs.declared.statuses.Status.{Status}
use Rattle.endings.specs.declared.statuses.Status.TheVariants.{Done, FileFault, Memory, OutFault, WireFault}
use Rattle.station.specs.OneStation.{FitStation, OneStation}
use Rattle.station.specs.ReadFile.{Unharmed}
use Rattle.station.specs.OneOutcome.{LeftAlike}
use Rattle.station.specs.Rows.{Objects, around}
use Rattle.serving.specs.Protocols.{Protocol}
use Rattle.serving.specs.Served.{FitOut, FitShelf, FitWire, airs}
use Rattle.serving.specs.Serving.{Around, AtDone, HasServed}
use Rattle.station.specs.StationRows.{ServedBy, StationRow, with_shelf}
use Rattle.station.proofs.LeftAlike.{kept_alike, same_or_other, same_said}
use Rattle.station.proofs.OneServings.{done_alike}
use Rattle.serving.proofs.WholeSessions.{next_fit}
use Rattle.station.proofs.OneSettings.{ok_and_err, one_err, one_ok}

-- a shelf of which a file was read is as fit
fit_after : (p : Protocol) (settings : Parts) (spare most : ℕ) (wire : Line) (old now : Files) (name file : List ℕ) → IsTrue old.tells → IsTrue old.steady → IsTrue (old.there name) → Unharmed name old now
    → FitShelf p settings spare wire old file most → FitShelf p settings spare wire now file most
fit_after p settings spare most wire old now name file t s there h fit =
    let back : all_files old ≡ all_files now = sym h.kept.files in
    record {
      tells = still h.kept.tells t;
      steady = h.steady t s there;
      proper = subst (λ (x : OtherFiles). IsTrue (x.there file) ⊎ (IsTrue x.further × (length file ≤ longest_name))) back fit.proper;
      told = fit.told;
      fits = λ line sessions after few. subst (λ (x : OtherFiles). length (airs sessions) ≤ 8 * x.fresh_room) back (fit.fits line sessions after few);
    }

-- over fit objects serving comes to Done
serves : (p : Protocol) (settings : Parts) (spare most : ℕ) (old new : Around) (address name : List ℕ) (status : Status) → FitWire p settings spare old.wire most → FitShelf p settings spare old.wire old.shelf name most → FitOut old.out most
    → HasServed p settings spare old new address name most status → (status ≡ Done) × AtDone p settings spare old new address name most
serves p settings spare most old new address name Done wire shelf out h = (refl, h)
serves p settings spare most old new address name WireFault wire shelf out h =
    let few : length h.sessions ≤ most = elim h.few [ inl fewer ↦ omega (arith, fewer) | inr none ↦ omega (arith, ap length none) ] in
    absurd (h.unfit wire.tells wire.steady (next_fit old.wire new.wire most h.sessions few wire h.wire))
serves p settings spare most old new address name FileFault wire shelf out (inl h) = absurd (h.unfit shelf)
serves p settings spare most old new address name FileFault wire shelf out (inr h) = absurd (h.unfit shelf)
serves p settings spare most old new address name OutFault wire shelf out h = absurd (h.unfit out)
serves p settings spare most old new address name other wire shelf out h = elim h [ ]

-- The settings were read, and all was served by them.
pub record IsServed (p : Protocol) (settings address air : List ℕ) (count : ℕ) (old new : Around) (outcome : Outcome) : Type 0 where
  pub parts : Parts
  pub shelf : Files
  pub tells : IsTrue shelf.tells
  pub kept : all_files shelf ≡ all_files old.shelf
  pub settings_are : settings_of (old.shelf.file settings) ≡ Ok parts
  pub done : AtDone p parts parts.cells (with_shelf old shelf) new address air count
  pub outcome_is : outcome ≡ Ended Done

-- The settings are refused, and nothing was touched.
pub record IsRefused (settings : List ℕ) (old new : Around) (outcome : Outcome) : Type 0 where
  pub fault : SettingsFault
  pub settings_are : settings_of (old.shelf.file settings) ≡ Err fault
  pub wire : new.wire ≡ old.wire
  pub out : new.out ≡ old.out
  pub kept : all_files new.shelf ≡ all_files old.shelf
  pub outcome_is : outcome ≡ Refused fault

is_served : (p : Protocol) (settings address air : List ℕ) (count : ℕ) (old new : Around) (status : Status) → FitStation p settings air count old → ServedBy p address settings air count old new status
    → IsServed p settings address air count old new (Ended status)
is_served p settings address air count old new status fit h =
    let are = h.read.settings_are fit.tells in
    let s = serves p h.parts h.parts.cells count (with_shelf old h.shelf) new address air status (fit.wire h.parts are)
    (fit_after p h.parts h.parts.cells count old.wire old.shelf h.shelf settings air fit.tells fit.steady fit.there h.read.unharmed (fit.shelf h.parts are)) fit.out h.served in
    record {
      parts = h.parts;
      shelf = h.shelf;
      tells = still h.read.unharmed.kept.tells fit.tells;
      kept = h.read.unharmed.kept.files;
      settings_are = are;
      done = s.1;
      outcome_is = ap (λ (x : Status). Ended x) s.0;
    }

-- what a row comes to
view : (p : Protocol) (settings address air : List ℕ) (count : ℕ) (old new : Around) (outcome : Outcome) → FitStation p settings air count old → outcome ≢ Ended Memory → StationRow p address settings air count old new outcome
    → IsServed p settings address air count old new outcome ⊎ IsRefused settings old new outcome
view p settings address air count old new (Refused fault) fit some h = inr (record {
  fault = fault;
  settings_are = h.0.refused fit.tells;
  wire = h.1.wire;
  out = h.1.out;
  kept = h.0.unharmed.kept.files;
  outcome_is = refl;
})
view p settings address air count old new (Misread fault) fit some h = elim h [ ]
view p settings address air count old new (Ended Memory) fit some h = absurd (some refl)
view p settings address air count old new (Ended FileFault) fit some (inl h) = absurd (h.0.unsteady fit.tells fit.steady fit.there)
view p settings address air count old new (Ended FileFault) fit some (inr h) = inl (is_served p settings address air count old new FileFault fit h)
view p settings address air count old new (Ended status) fit some h = inl (is_served p settings address air count old new status fit h)

-- each file is the same after both
files_alike : (p : Protocol) (settings address air : List ℕ) (count : ℕ) (old new other : Around) (outcome another : Outcome) → (h : IsServed p settings address air count old new outcome)
    → (k : IsServed p settings address air count old other another) → other.shelf.file air ≡ new.shelf.file air → (name : List ℕ)
    → (other.shelf.there name ≡ new.shelf.there name) × (other.shelf.file name ≡ new.shelf.file name)
files_alike p settings address air count old new other outcome another h k sent name = elim (same_or_other air name) [
  | inl e ↦ subst (λ (n : List ℕ). (other.shelf.there n ≡ new.shelf.there n) × (other.shelf.file n ≡ new.shelf.file n)) e (k.done.file.there k.tells ∙ sym (h.done.file.there h.tells), sent)
  | inr n ↦ (
      let a = h.done.file.others name (λ e. n (sym e)) in
      let b = k.done.file.others name (λ e. n (sym e)) in
      let e : all_files k.shelf ≡ all_files h.shelf = k.kept ∙ sym h.kept in
      (b.there ∙ (ap (λ (x : OtherFiles). x.there name) e ∙ sym a.there), b.file ∙ (ap (λ (x : OtherFiles). x.file name) e ∙ sym a.file))
      )
]

-- two that were served
both_served : (p : Protocol) (settings address air : List ℕ) (count : ℕ) (old new other : Objects) (outcome another : Outcome) → FitStation p settings air count (around old) → IsServed p settings address air count (around old) (around new) outcome
    → IsServed p settings address air count (around old) (around other) another → (another ≡ outcome) × LeftAlike new other
both_served p settings address air count old new other outcome another fit h k =
    let same : k.parts ≡ h.parts = one_ok (settings_of (old.shelf.file settings)) h.parts k.parts h.settings_are k.settings_are in
    let done : AtDone p h.parts h.parts.cells (with_shelf (around old) k.shelf) (around other) address air count = subst (λ (q : Parts). AtDone p q q.cells (with_shelf (around old) k.shelf) (around other) address air count) same k.done in
    let made = done_alike p h.parts h.parts.cells count old.wire h.shelf k.shelf old.streams.out (around new) (around other) address air (fit.wire h.parts h.settings_are) h.tells k.tells (fit.out).tells h.done done in
    let files = files_alike p settings address air count (around old) (around new) (around other) outcome another h k made.sent in (
      k.outcome_is ∙ sym h.outcome_is,
      record { out = made.held; there = λ name. (files name).0; files = λ name. (files name).1; said = made.said },
    )

-- two that are refused
both_refused : (settings : List ℕ) (old new other : Objects) (outcome another : Outcome) → IsRefused settings (around old) (around new) outcome → IsRefused settings (around old) (around other) another
    → (another ≡ outcome) × LeftAlike new other
both_refused settings old new other outcome another h k = (
  k.outcome_is ∙ (ap (λ (x : SettingsFault). Refused x) (one_err (settings_of (old.shelf.file settings)) h.fault k.fault h.settings_are k.settings_are) ∙ sym h.outcome_is),
  kept_alike old new other h.kept k.kept (same_said old.wire new.wire other.wire h.wire k.wire) (ap (λ (o : Written ℕ). o.held) (k.out ∙ sym h.out)),
)

pub one_station : (p : Protocol) → OneStation p
one_station p address settings air count old new other outcome another fit h k some some2 =
    elim (view p settings address air count (around old) (around new) outcome fit some h.row) [
      | inl served ↦ elim (view p settings address air count (around old) (around other) another fit some2 k.row) [
        | inl served2 ↦ both_served p settings address air count old new other outcome another fit served served2
        | inr refused2 ↦ ok_and_err (settings_of (old.shelf.file settings)) served.parts refused2.fault served.settings_are refused2.settings_are
      ]
      | inr refused ↦ elim (view p settings address air count (around old) (around other) another fit some2 k.row) [
        | inl served2 ↦ ok_and_err (settings_of (old.shelf.file settings)) served2.parts refused.fault served2.settings_are refused.settings_are
        | inr refused2 ↦ both_refused settings old new other outcome another refused refused2
      ]
    ]
