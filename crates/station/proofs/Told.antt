-- Over a steady err with room for the line, the line is put.
use Rattle.std.proofs.Common.{◌≡◌, ℕ, List, IsTrue, refl, sym, ◌∙◌, ap, subst, length, ◌≤◌}
use Rattle.subscribers.specs.declared.faults.SettingsFault.{SettingsFault}
use Rattle.tap_entry.specs.declared.faults.PagesFault.{PagesFault}
use Rattle.wires.specs.Written.{Written}
use Rattle.station.specs.declared.outcomes.Outcome.{Outcome}
use Rattle.station.specs.declared.outcomes.Outcome.TheVariants.{Ended, Misread, Refused}
use Rattle.endings.specs.declared.statuses.Status.{Status}
use Rattle.endings.specs.declared.statuses.Status.TheVariants.{BadPages, Done, OutFault, Settings}
use Rattle.station.specs.Outcomes.{ErrWell, Tells, TellsMisread, TellsOutcome, TellsRefusal, pages_line, settings_line}
use Rattle.endings.specs.Statuses.{status_line}
use Rattle.endings.specs.Wrote.{FitFor, StaysWell, Wrote}

-- nothing was put
untouched : (old new : Written ℕ) → new ≡ old → IsTrue old.steady → StaysWell old new
untouched old new e s = record { steady = subst (λ (w : Written ℕ). IsTrue w.steady) (sym e) s; faults = ap (λ (w : Written ℕ). w.faults) e }

put_well : (old new : Written ℕ) (line : List ℕ) → Wrote old new line → FitFor old line → StaysWell old new
put_well old new line h fit = record { steady = h.steady fit.tells fit.steady fit.room; faults = h.faults }

-- the line about a status
told_status : (status : Status) (old new : Written ℕ) (result : Status) → FitFor old (status_line status) → Tells status old new result → (result ≡ OutFault → status ≡ OutFault) × StaysWell old new
told_status Done old new result fit h = (λ e. sym h.0 ∙ e, untouched old new h.1 fit.steady)
told_status OutFault old new result fit h = (λ e. refl, untouched old new h.1 fit.steady)
told_status Settings old new result fit h = (λ e. sym h.0 ∙ e, untouched old new h.1 fit.steady)
told_status BadPages old new result fit h = (λ e. sym h.0 ∙ e, untouched old new h.1 fit.steady)
told_status status old new OutFault fit h = absurd (h.unfit fit.tells fit.steady fit.room)
told_status status old new result fit h = (λ e. sym h.0 ∙ e, put_well old new (status_line status) h.1 fit)

told_refusal : (old new : Written ℕ) (line : List ℕ) (fault : SettingsFault) (result : Status) → line ≡ settings_line fault → FitFor old line → TellsRefusal fault old new result
    → (result ≡ OutFault → Settings ≡ OutFault) × StaysWell old new
told_refusal old new line fault OutFault is fit h = absurd (h.unfit fit.tells fit.steady (subst (λ (l : List ℕ). length l ≤ old.room) is fit.room))
told_refusal old new line fault result is fit h = (λ e. sym h.0 ∙ e, put_well old new (settings_line fault) h.1 (subst (FitFor old) is fit))

told_misread : (old new : Written ℕ) (line : List ℕ) (fault : PagesFault) (result : Status) → line ≡ pages_line fault → FitFor old line → TellsMisread fault old new result
    → (result ≡ OutFault → BadPages ≡ OutFault) × StaysWell old new
told_misread old new line fault OutFault is fit h = absurd (h.unfit fit.tells fit.steady (subst (λ (l : List ℕ). length l ≤ old.room) is fit.room))
told_misread old new line fault result is fit h = (λ e. sym h.0 ∙ e, put_well old new (pages_line fault) h.1 (subst (FitFor old) is fit))

pub told_well : (outcome : Outcome) (old new : Written ℕ) (result : Status) → TellsOutcome outcome old new result → ErrWell outcome old new result
told_well (Ended status) old new result h fit = let k = told_status status old new result fit h in (λ e. ap (λ (s : Status). Ended s) (k.0 e), k.1)
told_well (Refused fault) old new result h fit = let k = told_refusal old new (settings_line fault) fault result refl fit h in (λ e. absurd (let q : Settings ≡ OutFault = k.0 e in cc), k.1)
told_well (Misread fault) old new result h fit = let k = told_misread old new (pages_line fault) fault result refl fit h in (λ e. absurd (let q : BadPages ≡ OutFault = k.0 e in cc), k.1)
