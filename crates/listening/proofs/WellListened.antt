-- Over an output with room for all that bits give, no write of a listener fails.
use Rattle.std.proofs.Common.{◌≡◌, ℕ, ◌≤◌, Bool, List, [], ◌∷◌, ◌++◌, append-nil, append_assoc, length, take, IsTrue, sym, ◌∙◌, ap, arith}
use Rattle.std.proofs.lemmas.List.{take_all}
use Rattle.std.proofs.Math.Seq.{take-append_seam}
use Rattle.wires.specs.Left.{Left}
use Rattle.wires.specs.Written.{Written}
use Rattle.endings.specs.declared.statuses.Status.{Status}
use Rattle.endings.specs.declared.statuses.Status.TheVariants.{Done, FileFault, OutFault, TooLong}
use Rattle.listening.specs.Listening.{ListenedToAll, ListenedTooLong, HasListened, OutWell, most_bits}
use Rattle.endings.specs.Wrote.{FitFor, StaysWell, Wrote}
use Rattle.listening.proofs.Listens.{length-front}

-- what was written had room
pub wrote_well : (old new : Written ℕ) (piece whole : List ℕ) → Wrote old new piece → FitFor old whole → length piece ≤ length whole → StaysWell old new
wrote_well old new piece whole h fit le = record { steady = h.steady fit.tells fit.steady (omega (arith, fit.room, le)); faults = h.faults }

-- the bits that were read are all that are to be listened to
pub read_whole : (printed : List Bool → List ℕ) (old new : Left Bool) (out0 out : Written ℕ) (h : ListenedToAll printed old new out0 out) → IsTrue old.tells → take most_bits old.left ≡ h.bits
read_whole printed old new out0 out h t =
    let all : old.left ≡ h.bits = h.took.left t ∙ (ap (λ (z : List Bool). h.bits ++ z) (h.whole t) ∙ append-nil h.bits) in
    take_all most_bits old.left (omega (arith, h.few, ap length all)) ∙ all

pub read_first : (printed : List Bool → List ℕ) (old new : Left Bool) (out0 out : Written ℕ) (h : ListenedTooLong printed old new out0 out) → IsTrue old.tells → take most_bits old.left ≡ h.bits
read_first printed old new out0 out h t =
    let all : old.left ≡ h.bits ++ (h.further ∷ new.left) = h.took.left t ∙ append_assoc h.bits (h.further ∷ []) new.left in
    ap (take most_bits) all ∙ (ap (λ (n : ℕ). take n (h.bits ++ (h.further ∷ new.left))) (sym h.many) ∙ take-append_seam h.bits (h.further ∷ new.left))

pub listened_well : (printed : List Bool → List ℕ) (old new : Left Bool) (out0 out : Written ℕ) (status : Status) → HasListened printed old new out0 out status → OutWell printed old out0 out status
listened_well printed old new out0 out Done h = λ t fit. (
  λ e. cc,
  wrote_well out0 out (printed h.bits) (printed (take most_bits old.left)) h.wrote fit (omega (arith, ap (λ (z : List Bool). length (printed z)) (read_whole printed old new out0 out h t))),
)
listened_well printed old new out0 out TooLong h = λ t fit. (
  λ e. cc,
  wrote_well out0 out (printed h.bits) (printed (take most_bits old.left)) h.wrote fit (omega (arith, ap (λ (z : List Bool). length (printed z)) (read_first printed old new out0 out h t))),
)
listened_well printed old new out0 out FileFault h = λ t fit. (
  λ e. cc,
  wrote_well out0 out (printed h.bits) (printed (take most_bits old.left)) h.wrote fit (length-front (printed h.bits) (printed (take most_bits old.left)) (h.of_all t)),
)
listened_well printed old new out0 out OutFault h = λ t fit. absurd ((h.of_all t).unfit fit.tells fit.steady fit.room)
listened_well printed old new out0 out other h = elim h [ ]
