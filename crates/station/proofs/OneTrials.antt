-- What `trial` and `twice` come to where no call fails.
use Rattle.std.proofs.Common.{◌≡◌, ◌≢◌, ℕ, ◌≤◌, ◌⊎◌, inl, inr, Bool, List, ◌++◌, length, Ok, Err, IsTrue, refl, sym, ◌∙◌, ap, ap₂, subst}
use Rattle.bits.specs.Bits.{bytes_bits}
use Rattle.subscribers.specs.Parts.{Parts}
use Rattle.subscribers.specs.Settings.{settings_of}
use Rattle.subscribers.specs.declared.faults.SettingsFault.{SettingsFault}
use Rattle.tap_block.specs.Chars.{characters}
use Rattle.subscribers.specs.Directory.{directory_of}
use Rattle.tap_terminal.specs.Session.{Session}
use Rattle.tap_terminal.proofs.Fronts.{session_exists}
use Rattle.tap_terminal.proofs.Sessions.{one_session}
use Rattle.wires.proofs.Written.{and_one, still}
use Rattle.wires.specs.Files.{Files, all_files}
use Rattle.wires.specs.Held.{OtherFiles}
use Rattle.wires.specs.Left.{Left}
use Rattle.wires.specs.Stacked.{noisy_bits}
use Rattle.wires.specs.Written.{Written}
use Rattle.station.specs.declared.outcomes.Outcome.{Outcome}
use Rattle.station.specs.declared.outcomes.Outcome.TheVariants.{Ended, Misread, Refused}
use Rattle.endings.specs.declared.statuses.Status.{Status}
use Rattle.endings.specs.declared.statuses.Status.TheVariants.{Done, FileFault, InputFault, Memory, OutFault}
use Rattle.station.specs.OneTrial.{FitTrial, OneTrial}
use Rattle.one_block.specs.OneRow.{Streams}
use Rattle.serving.specs.Sent.{IsSent, Times}
use Rattle.serving.specs.TapSessions.{SessionOf}
use Rattle.station.specs.StationRows.{TrialRow, TriedBy, lines_by}
use Rattle.serving.specs.Trying.{TriedAll, Tries, trial_lines}
use Rattle.station.proofs.LeftAlike.{kept_alike, same_said}
use Rattle.station.proofs.OneSettings.{ok_and_err, one_err, one_ok}
use Rattle.serving.proofs.Trials.{sent_of}
use Rattle.serving.proofs.TriedWell.{one_sent, tried_well}

-- the room for the lines of a trial
abbrev Room : Times → Parts → ℕ → (List Bool → List ℕ) → List ℕ → List Bool → ℕ → Type 0
Room times settings spare printed input noise room = (session : Session) (air : List Bool) → SessionOf settings spare input session → IsSent times session.pages air → length (trial_lines printed session (noisy_bits air noise)) ≤ room

-- a trial over fit objects comes to Done
tries_done : (times : Times) (settings : Parts) (spare : ℕ) (printed : List Bool → List ℕ) (input0 input : Left ℕ) (noise0 noise : Left Bool) (out0 out : Written ℕ) (status : Status)
    → IsTrue input0.tells → IsTrue input0.steady → IsTrue noise0.tells → IsTrue noise0.steady → IsTrue out0.tells → IsTrue out0.steady → Room times settings spare printed input0.left noise0.left out0.room
    → Tries times settings spare printed input0 input noise0 noise out0 out status → (status ≡ Done) × TriedAll times settings spare printed input0 input noise0 noise out0 out
tries_done times settings spare printed input0 input noise0 noise out0 out Done it is nt ns ot os room h = (refl, h)
tries_done times settings spare printed input0 input noise0 noise out0 out FileFault it is nt ns ot os room h = absurd (h.failed.unsteady nt ns)
tries_done times settings spare printed input0 input noise0 noise out0 out InputFault it is nt ns ot os room h = absurd (h.broken.unsteady it is)
tries_done times settings spare printed input0 input noise0 noise out0 out OutFault it is nt ns ot os room h =
    let whole = session_exists settings.password (directory_of settings) spare (characters input0.left) in
    let air = sent_of times (whole.0).pages in
    let well = tried_well times settings spare printed input0 input noise0 noise out0 out OutFault h it nt whole.0 air.0 whole.1 air.1 (record { tells = ot; steady = os; room = room whole.0 air.0 whole.1 air.1 }) in
    absurd (well.0 refl)
tries_done times settings spare printed input0 input noise0 noise out0 out other it is nt ns ot os room h = elim h [ ]

-- The settings were read, and all lines of the trial were printed.
pub record IsTried (times : Times) (settings noise : List ℕ) (receivers : List (List ℕ)) (shelf new : Files) (streams : Streams) (out : Written ℕ) (outcome : Outcome) : Type 0 where
  pub parts : Parts
  pub settings_are : settings_of (shelf.file settings) ≡ Ok parts
  pub session : Session
  pub session_is : SessionOf parts parts.cells streams.input.left session
  pub air : List Bool
  pub is_sent : IsSent times session.pages air
  pub held : out.held ≡ streams.out.held ++ trial_lines (lines_by times receivers) session (noisy_bits air (bytes_bits (shelf.file noise)))
  pub kept : all_files new ≡ all_files shelf
  pub outcome_is : outcome ≡ Ended Done

-- The settings are refused, and nothing was printed.
pub record IsUntried (settings : List ℕ) (shelf new : Files) (streams : Streams) (out : Written ℕ) (outcome : Outcome) : Type 0 where
  pub fault : SettingsFault
  pub settings_are : settings_of (shelf.file settings) ≡ Err fault
  pub out_stays : out ≡ streams.out
  pub kept : all_files new ≡ all_files shelf
  pub outcome_is : outcome ≡ Refused fault

is_tried : (times : Times) (settings noise : List ℕ) (receivers : List (List ℕ)) (shelf new : Files) (streams : Streams) (input : Left ℕ) (out : Written ℕ) (status : Status) → FitTrial times settings noise receivers shelf streams
    → TriedBy times settings noise receivers streams.input input shelf new streams.out out status → IsTried times settings noise receivers shelf new streams out (Ended status)
is_tried times settings noise receivers shelf new streams input out status fit h =
    let are = h.read.settings_are fit.tells in
    let b = h.tried.bits_are in
    let kept = h.read.unharmed.kept.files in
    let file : (h.tried.bits).left ≡ bytes_bits (shelf.file noise) = b.left ∙ ap (λ (x : OtherFiles). bytes_bits (x.file noise)) kept in
    let there : IsTrue (h.shelf.there noise) = still (ap (λ (x : OtherFiles). x.there noise) kept) fit.noise_there in
    let steady : IsTrue (h.tried.bits).steady = still b.steady (and_one h.shelf.steady (h.shelf.there noise) (h.read.unharmed.steady fit.tells fit.steady fit.there) there) in
    let tells : IsTrue (h.tried.bits).tells = still b.tells (still h.read.unharmed.kept.tells fit.tells) in
    let room : Room times h.parts h.parts.cells (lines_by times receivers) streams.input.left (h.tried.bits).left streams.out.room =
    subst (λ (z : List Bool). Room times h.parts h.parts.cells (lines_by times receivers) streams.input.left z streams.out.room) (sym file) (fit.room h.parts are) in
    let d = tries_done times h.parts h.parts.cells (lines_by times receivers) streams.input input h.tried.bits h.tried.rest streams.out out status
    fit.input_tells fit.input_steady tells steady fit.out_tells fit.out_steady room h.tried.tries in
    let t = d.1.tried in
    record {
      parts = h.parts;
      settings_are = are;
      session = t.session;
      session_is = t.of_all fit.input_tells;
      air = t.air;
      is_sent = t.is_sent;
      held = d.1.wrote.held fit.out_tells
          ∙ ap (λ (z : List Bool). streams.out.held ++ trial_lines (lines_by times receivers) t.session z) (d.1.of_noise tells ∙ ap (noisy_bits t.air) file);
      kept = h.tried.kept.files ∙ kept;
      outcome_is = ap (λ (x : Status). Ended x) d.0;
    }

-- what a row comes to
view : (times : Times) (settings noise : List ℕ) (receivers : List (List ℕ)) (shelf new : Files) (streams : Streams) (input : Left ℕ) (out : Written ℕ) (outcome : Outcome) → FitTrial times settings noise receivers shelf streams → outcome ≢ Ended Memory
    → TrialRow times settings noise receivers streams.input input shelf new streams.out out outcome → IsTried times settings noise receivers shelf new streams out outcome ⊎ IsUntried settings shelf new streams out outcome
view times settings noise receivers shelf new streams input out (Refused fault) fit some h = inr (record { fault = fault; settings_are = h.0.refused fit.tells; out_stays = h.2; kept = h.0.unharmed.kept.files; outcome_is = refl })
view times settings noise receivers shelf new streams input out (Misread fault) fit some h = elim h [ ]
view times settings noise receivers shelf new streams input out (Ended Memory) fit some h = absurd (some refl)
view times settings noise receivers shelf new streams input out (Ended FileFault) fit some (inl h) = absurd (h.0.unsteady fit.tells fit.steady fit.there)
view times settings noise receivers shelf new streams input out (Ended FileFault) fit some (inr h) = inl (is_tried times settings noise receivers shelf new streams input out FileFault fit h)
view times settings noise receivers shelf new streams input out (Ended status) fit some h = inl (is_tried times settings noise receivers shelf new streams input out status fit h)

-- two that were tried
both_tried : (times : Times) (settings noise : List ℕ) (receivers : List (List ℕ)) (shelf new other : Files) (streams : Streams) (out out2 : Written ℕ) (outcome another : Outcome) → IsTried times settings noise receivers shelf new streams out outcome
    → IsTried times settings noise receivers shelf other streams out2 another → (another ≡ outcome) × (out2.held ≡ out.held)
both_tried times settings noise receivers shelf new other streams out out2 outcome another h k =
    let same : k.parts ≡ h.parts = one_ok (settings_of (shelf.file settings)) h.parts k.parts h.settings_are k.settings_are in
    let session : k.session ≡ h.session =
    one_session h.parts.password (directory_of h.parts) h.parts.cells (characters streams.input.left) k.session h.session
    (subst (λ (p : Parts). SessionOf p p.cells streams.input.left k.session) same k.session_is) h.session_is in
    let air : k.air ≡ h.air = one_sent times h.session.pages h.air k.air h.is_sent (subst (λ (s : Session). IsSent times s.pages k.air) session k.is_sent) in (
      k.outcome_is ∙ sym h.outcome_is,
      k.held ∙ (ap₂ (λ (s : Session) (z : List Bool). streams.out.held ++ trial_lines (lines_by times receivers) s (noisy_bits z (bytes_bits (shelf.file noise)))) session air ∙ sym h.held),
    )

pub one_trial : OneTrial
one_trial times settings noise receivers old new other outcome another fit h k some some2 =
    let said = same_said old.wire new.wire other.wire h.wire k.wire in
    elim (view times settings noise receivers old.shelf new.shelf old.streams new.streams.input new.streams.out outcome fit some h.row) [
      | inl tried ↦ elim (view times settings noise receivers old.shelf other.shelf old.streams other.streams.input other.streams.out another fit some2 k.row) [
        | inl tried2 ↦ (
            let b = both_tried times settings noise receivers old.shelf new.shelf other.shelf old.streams new.streams.out other.streams.out outcome another tried tried2 in
            (b.0, kept_alike old new other tried.kept tried2.kept said b.1)
            )
        | inr refused2 ↦ ok_and_err (settings_of (old.shelf.file settings)) tried.parts refused2.fault tried.settings_are refused2.settings_are
      ]
      | inr refused ↦ elim (view times settings noise receivers old.shelf other.shelf old.streams other.streams.input other.streams.out another fit some2 k.row) [
        | inl tried2 ↦ ok_and_err (settings_of (old.shelf.file settings)) tried2.parts refused.fault tried2.settings_are refused.settings_are
        | inr refused2 ↦ (
          refused2.outcome_is ∙ (ap (λ (x : SettingsFault). Refused x) (one_err (settings_of (old.shelf.file settings)) refused.fault refused2.fault refused.settings_are refused2.settings_are) ∙ sym refused.outcome_is),
          kept_alike old new other refused.kept refused2.kept said (ap (λ (o : Written ℕ). o.held) (refused2.out_stays ∙ sym refused.out_stays)),
        )
      ]
    ]
