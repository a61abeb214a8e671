-- What `line` comes to where no call fails.
use Rattle.std.proofs.Common.{◌≡◌, ◌≢◌, inl, inr, ℕ, List, refl, sym, ◌∙◌, ap, subst, arith}
use Rattle.wires.specs.Files.{Files}
use Rattle.endings.specs.declared.statuses.Status.{Status}
use Rattle.endings.specs.declared.statuses.Status.TheVariants.{Done, FileFault, Memory, TooLong}
use Rattle.line_writer.specs.LineFile.{LineFault, OthersStand, WritesLine}
use Rattle.station.specs.OneOutcome.{FitWriteLine, OneWriteLine}
use Rattle.one_block.specs.OneRow.{Streams}
use Rattle.station.proofs.LeftAlike.{same_or_other, same_said}
use Rattle.endings.proofs.OneBytes.{one_bytes}

-- no call of a fit shelf fails
no_fault : {B : Type 0} (air line : List ℕ) (seed : ℕ) (old new : Files) → FitWriteLine air line old → LineFault air line seed old new → B
no_fault air line seed old new fit h = elim h.at [
  | inl x ↦ absurd (x.unfit fit.tells fit.steady fit.fresh)
  | inr y ↦ elim y [
    | inl x ↦ absurd (x.unfit fit.tells fit.steady fit.fresh fit.there)
    | inr x ↦ absurd (x.unfit fit.tells fit.steady fit.fresh fit.room)
  ]
]

-- the files of two shelves are the same where they are at one name, and the others stand
record SameFiles (new other : Files) : Type 0 where
  there : (name : List ℕ) → other.there name ≡ new.there name
  file : (name : List ℕ) → other.file name ≡ new.file name

same_files : (line : List ℕ) (old new other : Files) → OthersStand line old new → OthersStand line old other → other.there line ≡ new.there line → other.file line ≡ new.file line → SameFiles new other
same_files line old new other h k there file = record {
  there = λ name. elim (same_or_other name line) [
    | inl e ↦ subst (λ (n : List ℕ). other.there n ≡ new.there n) (sym e) there
    | inr ne ↦ (k.others name ne).there ∙ sym (h.others name ne).there
  ];
  file = λ name. elim (same_or_other name line) [
    | inl e ↦ subst (λ (n : List ℕ). other.file n ≡ new.file n) (sym e) file
    | inr ne ↦ (k.others name ne).file ∙ sym (h.others name ne).file
  ];
}

pair : (air line : List ℕ) (seed : ℕ) (old new other : Files) (status another : Status) → FitWriteLine air line old → WritesLine air line seed old new status → WritesLine air line seed old other another
    → status ≢ Memory → another ≢ Memory → (another ≡ status) × SameFiles new other
pair air line seed old new other Done Done fit h k some some2 =
    let t = fit.tells in (
      refl,
      same_files line old new other h.others k.others (k.made.there t ∙ sym (h.made.there t))
          (one_bytes (other.file line) (new.file line) (k.holds t).are (h.holds t).are ((k.holds t).bits_are ∙ sym (h.holds t).bits_are)),
    )
pair air line seed old new other Done TooLong fit h k some some2 = absurd (omega (arith, h.few fit.tells, k.many fit.tells))
pair air line seed old new other TooLong Done fit h k some some2 = absurd (omega (arith, k.few fit.tells, h.many fit.tells))
pair air line seed old new other TooLong TooLong fit h k some some2 =
    let t = fit.tells in (refl, same_files line old new other h.others k.others (k.made.there t ∙ sym (h.made.there t)) (k.empty t ∙ sym (h.empty t)))
pair air line seed old new other FileFault another fit h k some some2 = no_fault air line seed old new fit h
pair air line seed old new other Memory another fit h k some some2 = absurd (some refl)
pair air line seed old new other status FileFault fit h k some some2 = no_fault air line seed old other fit k
pair air line seed old new other status Memory fit h k some some2 = absurd (some2 refl)
pair air line seed old new other Done another fit h k some some2 = elim k [ ]
pair air line seed old new other TooLong another fit h k some some2 = elim k [ ]
pair air line seed old new other status another fit h k some some2 = elim h [ ]

pub one_write_line : OneWriteLine
one_write_line air line seed old new other status another fit h k some some2 =
    let s = pair air line seed old.shelf new.shelf other.shelf status another fit h.row k.row some some2 in (
      s.0,
      record {
        out = ap (λ (x : Streams). x.out.held) (k.streams ∙ sym h.streams);
        there = s.1.there;
        files = s.1.file;
        said = same_said old.wire new.wire other.wire h.wire k.wire;
      },
    )
