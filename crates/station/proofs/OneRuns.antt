-- What a run comes to where no call fails.
use Rattle.std.proofs.Common.{◌≡◌, ◌≢◌, ℕ, ◌≤◌, List, [], ◌++◌, append-nil, length, Option, Some, None, refl, sym, ◌∙◌, ap, subst}
use Rattle.subscribers.specs.declared.faults.SettingsFault.{SettingsFault}
use Rattle.tap_entry.specs.declared.faults.PagesFault.{PagesFault}
use Rattle.wires.specs.Written.{Written}
use Rattle.station.specs.declared.outcomes.Outcome.{Outcome}
use Rattle.station.specs.declared.outcomes.Outcome.TheVariants.{Ended, Misread, Refused}
use Rattle.endings.specs.declared.statuses.Status.{Status}
use Rattle.endings.specs.declared.statuses.Status.TheVariants.{BadPages, Done, Memory, OutFault, Settings}
use Rattle.command_lines.specs.Commands.{Command, Load, One, Play, PlayLine, Send, Show, Snpp, Station, Trial, Twice, WriteLine}
use Rattle.serving.specs.Protocols.{snpp, tap}
use Rattle.station.specs.OneRun.{FitRun, OneRun}
use Rattle.station.specs.Outcomes.{Tells, TellsMisread, TellsOutcome, TellsRefusal, line_about, pages_line, settings_line}
use Rattle.station.specs.Rows.{Acts, HasEndedSo, Objects}
use Rattle.endings.specs.Statuses.{status_line}
use Rattle.station.specs.OneOutcome.{LeftAlike}
use Rattle.station.proofs.LeftAlike.{kept_alike}
use Rattle.endings.specs.Wrote.{FitFor}
use Rattle.serving.specs.Sent.{once, twice}
use Rattle.command_lines.proofs.OneCommands.{one_command}
use Rattle.station.proofs.OneOfOne.{one_one}
use Rattle.station.proofs.OneLoads.{one_load}
use Rattle.station.proofs.OneOutcomes.{one_play, one_play_line, one_show}
use Rattle.station.proofs.OneLines.{one_write_line}
use Rattle.station.proofs.OneSends.{one_send}
use Rattle.station.proofs.OneStations.{one_station}
use Rattle.station.proofs.OneTrials.{one_trial}

-- ---- the line about an outcome

-- the status that a run ends with
abbrev result_of : Outcome → Status
result_of (Ended status) = status
result_of (Refused fault) = Settings
result_of (Misread fault) = BadPages

nothing_put : (old new : Written ℕ) → new ≡ old → new.held ≡ old.held ++ []
nothing_put old new e = ap (λ (w : Written ℕ). w.held) e ∙ sym (append-nil old.held)

tells_fit : (status : Status) (old new : Written ℕ) (result : Status) → FitFor old (status_line status) → Tells status old new result → (result ≡ status) × (new.held ≡ old.held ++ status_line status)
tells_fit Done old new result fit h = (h.0, nothing_put old new h.1)
tells_fit OutFault old new result fit h = (h.0, nothing_put old new h.1)
tells_fit Settings old new result fit h = (h.0, nothing_put old new h.1)
tells_fit BadPages old new result fit h = (h.0, nothing_put old new h.1)
tells_fit status old new OutFault fit h = absurd (h.unfit fit.tells fit.steady fit.room)
tells_fit status old new result fit h = (h.0, h.1.held fit.tells)

refusal_fit : (old new : Written ℕ) (line : List ℕ) (fault : SettingsFault) (result : Status) → line ≡ settings_line fault → FitFor old line → TellsRefusal fault old new result → (result ≡ Settings) × (new.held ≡ old.held ++ settings_line fault)
refusal_fit old new line fault OutFault e fit h = absurd (h.unfit fit.tells fit.steady (subst (λ (l : List ℕ). length l ≤ old.room) e fit.room))
refusal_fit old new line fault result e fit h = (h.0, h.1.held fit.tells)

misread_fit : (old new : Written ℕ) (line : List ℕ) (fault : PagesFault) (result : Status) → line ≡ pages_line fault → FitFor old line → TellsMisread fault old new result → (result ≡ BadPages) × (new.held ≡ old.held ++ pages_line fault)
misread_fit old new line fault OutFault e fit h = absurd (h.unfit fit.tells fit.steady (subst (λ (l : List ℕ). length l ≤ old.room) e fit.room))
misread_fit old new line fault result e fit h = (h.0, h.1.held fit.tells)

-- over a fit output the line is put
told_fit : (outcome : Outcome) (old new : Written ℕ) (result : Status) → FitFor old (line_about outcome) → TellsOutcome outcome old new result → (result ≡ result_of outcome) × (new.held ≡ old.held ++ line_about outcome)
told_fit (Ended status) old new result fit h = tells_fit status old new result fit h
told_fit (Refused fault) old new result fit h = refusal_fit old new (settings_line fault) fault result refl fit h
told_fit (Misread fault) old new result fit h = misread_fit old new (pages_line fault) fault result refl fit h

-- ---- the commands

came_alike : {M : Type 0} (row row2 : Status → Type 0) (outcome another : Outcome) → ((s t : Status) → row s → row2 t → s ≢ Memory → t ≢ Memory → (t ≡ s) × M)
    → HasEndedSo row outcome → HasEndedSo row2 another → outcome ≢ Ended Memory → another ≢ Ended Memory → (another ≡ outcome) × M
came_alike row row2 (Ended s) (Ended t) f h k some some2 =
    let r = f s t h k (λ e. some (ap (λ (x : Status). Ended x) e)) (λ e. some2 (ap (λ (x : Status). Ended x) e)) in (ap (λ (x : Status). Ended x) r.0, r.1)
came_alike row row2 (Ended s) (Refused fault) f h k some some2 = elim k [ ]
came_alike row row2 (Ended s) (Misread fault) f h k some some2 = elim k [ ]
came_alike row row2 (Refused fault) another f h k some some2 = elim h [ ]
came_alike row row2 (Misread fault) another f h k some some2 = elim h [ ]

acts_alike : (command : Option Command) (old new other : Objects) (outcome another : Outcome) → FitRun command old → Acts command old new outcome → Acts command old other another
    → outcome ≢ Ended Memory → another ≢ Ended Memory → (another ≡ outcome) × LeftAlike new other
acts_alike None old new other outcome another fit h k some some2 =
    (k.0 ∙ sym h.0, subst (λ (x : Objects). LeftAlike x other) (k.1 ∙ sym h.1) (kept_alike other other other refl refl (λ j. refl) refl))
acts_alike (Some (One capcode)) old new other outcome another fit h k some some2 =
    came_alike _ _ outcome another (λ s t a b n m. one_one capcode old new other s t fit a b n m) h k some some2
acts_alike (Some (Load seed count)) old new other outcome another fit h k some some2 =
    came_alike _ _ outcome another (λ s t a b n m. one_load seed count old new other s t fit a b n m) h k some some2
acts_alike (Some (Play air receivers)) old new other outcome another fit h k some some2 =
    came_alike _ _ outcome another (λ s t a b n m. one_play receivers air old new other s t fit.0 fit.1 a b n m) h k some some2
acts_alike (Some (PlayLine line receivers)) old new other outcome another fit h k some some2 =
    came_alike _ _ outcome another (λ s t a b n m. one_play_line receivers line old new other s t fit.0 fit.1 a b n m) h k some some2
acts_alike (Some (WriteLine air line seed)) old new other outcome another fit h k some some2 =
    came_alike _ _ outcome another (λ s t a b n m. one_write_line air line seed old new other s t fit a b n m) h k some some2
acts_alike (Some (Show air)) old new other outcome another fit h k some some2 =
    came_alike _ _ outcome another (λ s t a b n m. one_show air old new other s t fit.0 fit.1 a b) h k some some2
acts_alike (Some (Station address settings air count)) old new other outcome another fit h k some some2 = one_station tap address settings air count old new other outcome another fit h k some some2
acts_alike (Some (Snpp address settings air count)) old new other outcome another fit h k some some2 = one_station snpp address settings air count old new other outcome another fit h k some some2
acts_alike (Some (Trial settings noise receivers)) old new other outcome another fit h k some some2 = one_trial once settings noise receivers old new other outcome another fit h k some some2
acts_alike (Some (Twice settings noise receivers)) old new other outcome another fit h k some some2 = one_trial twice settings noise receivers old new other outcome another fit h k some some2
acts_alike (Some (Send address pages)) old new other outcome another fit h k some some2 = one_send address pages old new other outcome another fit h k some some2

-- a run that had memory came to something else
had_memory : (outcome : Outcome) (result : Status) → result ≡ result_of outcome → result ≢ Memory → outcome ≢ Ended Memory
had_memory outcome result e some is = some (e ∙ ap result_of is)

pub one_run : OneRun
one_run words command old new other result another are fit err h k some some2 =
    let acts : Acts command old.objects new.objects h.outcome = subst (λ (c : Option Command). Acts c old.objects new.objects h.outcome) (one_command words command h.command are h.words_are) h.acts in
    let acts2 : Acts command old.objects other.objects k.outcome = subst (λ (c : Option Command). Acts c old.objects other.objects k.outcome) (one_command words command k.command are k.words_are) k.acts in
    let told = told_fit h.outcome old.err new.err result (record { tells = err.tells; steady = err.steady; room = err.room new.objects h.outcome acts }) h.tells in
    let told2 = told_fit k.outcome old.err other.err another (record { tells = err.tells; steady = err.steady; room = err.room other.objects k.outcome acts2 }) k.tells in
    let r = acts_alike command old.objects new.objects other.objects h.outcome k.outcome fit acts acts2 (had_memory h.outcome result told.0 some) (had_memory k.outcome another told2.0 some2) in
    record {
      ends_alike = told2.0 ∙ (ap result_of r.0 ∙ sym told.0);
      left_alike = r.1;
      err_alike = told2.1 ∙ (ap (λ (x : Outcome). old.err.held ++ line_about x) r.0 ∙ sym told.1);
    }
