-- What `load` comes to where no call fails.
use Rattle.std.proofs.Common.{◌≡◌, ◌≢◌, ℕ, ◌++◌, refl, sym, ◌∙◌, ap}
use Rattle.endings.specs.declared.statuses.Status.{Status}
use Rattle.endings.specs.declared.statuses.Status.TheVariants.{Done, Memory, OutFault}
use Rattle.load.specs.Loads.{Loads}
use Rattle.load.specs.Report.{load_lines}
use Rattle.load.specs.declared.report.Report.{Report}
use Rattle.load.proofs.OneReport.{one_report}
use Rattle.wires.specs.Files.{all_files}
use Rattle.wires.specs.Written.{Written}
use Rattle.station.specs.OneOutcome.{FitLoad, OneLoad}
use Rattle.station.proofs.LeftAlike.{kept_alike, same_said}

pair : (seed count : ℕ) (old new other : Written ℕ) (status another : Status) → FitLoad seed count old → Loads seed count old new status → Loads seed count old other another
    → status ≢ Memory → another ≢ Memory → (another ≡ status) × (other.held ≡ new.held)
pair seed count old new other Done Done fit h k some some2 =
    let same : k.0 ≡ h.0 = one_report seed count k.0 k.1 ∙ sym (one_report seed count h.0 h.1) in
    (refl, k.2.held fit.tells ∙ (ap (λ (r : Report). old.held ++ load_lines r) same ∙ sym (h.2.held fit.tells)))
pair seed count old new other OutFault another fit h k some some2 = absurd (h.2.unfit fit.tells fit.steady (fit.room h.0 h.1))
pair seed count old new other Memory another fit h k some some2 = absurd (some refl)
pair seed count old new other Done OutFault fit h k some some2 = absurd (k.2.unfit fit.tells fit.steady (fit.room k.0 k.1))
pair seed count old new other Done Memory fit h k some some2 = absurd (some2 refl)
pair seed count old new other Done another fit h k some some2 = elim k [ ]
pair seed count old new other status another fit h k some some2 = elim h [ ]

pub one_load : OneLoad
one_load seed count old new other status another fit h k some some2 =
    let s = pair seed count old.streams.out new.streams.out other.streams.out status another fit h.row k.row some some2 in
    (s.0, kept_alike old new other (ap all_files h.shelf) (ap all_files k.shelf) (same_said old.wire new.wire other.wire h.wire k.wire) s.1)
