-- The words that are held.
use Rattle.std.proofs.Common.{◌≡◌, ℕ, Bool, false, ◌+◌, ◌<◌, ◌≤◌, List, [], ◌∷◌, ◌++◌, length, length-append, length-take-le, take, set, arith, refl, sym, ◌∙◌, ap}
use Rattle.std.proofs.lemmas.List.{take_all, take_more_set, take-append-le}
use Rattle.repeats.specs.Twin.{held_slots}
use Rattle.receiver.specs.declared.front.FrontEvent.TheVariants.{Still}
use Rattle.repeats.specs.TwinListeners.{JoinsSlot, Paired, paired_of, after_first}

-- one word more, where there is room
pub held_one : (most : ℕ) (words : List ℕ) (count word : ℕ) → length words ≡ most → count < most → take (count + 1) (set words count word) ≡ take most (take count words ++ word ∷ [])
held_one most words count word l h =
    let lt = length-take-le count words (omega arith) in
    let la = length-append (take count words) (word ∷ []) in
    take_more_set words count word (omega arith) ∙ sym (take_all most (take count words ++ word ∷ []) (omega arith))

-- and where there is none
pub held_full : (most : ℕ) (words : List ℕ) (count word : ℕ) → length words ≡ most → most ≤ count → count ≤ most → take count words ≡ take most (take count words ++ word ∷ [])
held_full most words count word l h k =
    let lt = length-take-le count words (omega arith) in
    sym (take-append-le most (take count words) (word ∷ []) (omega arith) ∙ take_all most (take count words) (omega arith))

pub first_held : (now : Paired) (second : Bool) (words : List ℕ) (count slot word : ℕ) → paired_of second (take count words) slot ≡ now
    → length words ≡ held_slots → count < held_slots
    → JoinsSlot false now 0 word Still (paired_of second (take (count + 1) (set words count word)) slot)
first_held now second words count slot word e l h = (
  refl,
  ap (λ (xs : List ℕ). paired_of second xs slot) (held_one held_slots words count word l h) ∙ ap (λ (p : Paired). after_first p word) e,
)

pub first_full : (now : Paired) (second : Bool) (words : List ℕ) (count slot word : ℕ) → paired_of second (take count words) slot ≡ now
    → length words ≡ held_slots → held_slots ≤ count → count ≤ held_slots
    → JoinsSlot false now 0 word Still now
first_full now second words count slot word e l h k = (
  refl,
  sym e ∙ ap (λ (xs : List ℕ). paired_of second xs slot) (held_full held_slots words count word l h k) ∙ ap (λ (p : Paired). after_first p word) e,
)
