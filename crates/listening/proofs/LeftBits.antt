-- What is left of a source of bits that was listened to.
use Rattle.std.proofs.Common.{◌≡◌, Bool, List, [], ◌∷◌, ◌++◌, append_assoc, sym, ◌∙◌, ap}
use Rattle.wires.specs.Left.{Left}
use Rattle.endings.specs.declared.statuses.Status.{Status}
use Rattle.endings.specs.declared.statuses.Status.TheVariants.{Done}
use Rattle.listening.specs.Noise.{LeavesBits}

-- a list of which a front is empty, and one behind it
pub no_rest : {A : Type 0} (xs ys : List A) → xs ++ ys ≡ [] → ys ≡ []
no_rest [] ys e = e
no_rest (x ∷ xs) ys e = cc

-- the bits that were heard were taken, and those of the piece under way
pub leaves_bits : (old now new : Left Bool) (heard piece next : List Bool) (status : Status) → old.left ≡ heard ++ (piece ++ now.left) → next ++ new.left ≡ piece ++ now.left
    → now.lent ≡ old.lent → new.lent ≡ now.lent → (status ≡ Done → new.left ≡ []) → LeavesBits old new status
leaves_bits old now new heard piece next status is same lent more all = record {
  taken = heard ++ next;
  left = is ∙ (ap (λ (xs : List Bool). heard ++ xs) (sym same) ∙ sym (append_assoc heard next new.left));
  all = all;
  lent = more ∙ lent;
}
