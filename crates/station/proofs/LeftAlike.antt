-- What two runs left is the same: where neither changed a file or a connection, and name by name.
use Rattle.std.proofs.Common.{◌≡◌, ◌≢◌, ℕ, ◌⊎◌, inl, inr, List, [], ◌∷◌, drop, get_or, refl, sym, ◌∙◌, ap, ap₂}
use Rattle.std.proofs.lemmas.Bool.{cases_eq}
use Rattle.wires.specs.Files.{all_files}
use Rattle.wires.specs.Held.{OtherFiles}
use Rattle.wires.specs.Line.{Line}
use Rattle.station.specs.OneOutcome.{LeftAlike}
use Rattle.station.specs.Rows.{Objects}

-- neither changed a file
pub kept_alike : (old new other : Objects) → all_files new.shelf ≡ all_files old.shelf → all_files other.shelf ≡ all_files old.shelf → ((k : ℕ) → (other.wire.connection k).said ≡ (new.wire.connection k).said)
    → other.streams.out.held ≡ new.streams.out.held → LeftAlike new other
kept_alike old new other h k said out = record {
  out = out;
  there = λ name. ap (λ (x : OtherFiles). x.there name) (k ∙ sym h);
  files = λ name. ap (λ (x : OtherFiles). x.file name) (k ∙ sym h);
  said = said;
}

-- neither touched the wire
pub same_said : (old new other : Line) → new ≡ old → other ≡ old → (k : ℕ) → (other.connection k).said ≡ (new.connection k).said
same_said old new other h k j = ap (λ (w : Line). (w.connection j).said) (k ∙ sym h)

-- two names are one, or differ
pub same_or_other : (a b : List ℕ) → (a ≡ b) ⊎ (a ≢ b)
same_or_other [] [] = inl refl
same_or_other [] (y ∷ b) = inr (λ e. cc)
same_or_other (x ∷ a) [] = inr (λ e. cc)
same_or_other (x ∷ a) (y ∷ b) = elim (cases_eq x y) [
  | inl e ↦ elim (same_or_other a b) [
    | inl f ↦ inl (ap₂ (λ (z : ℕ) (l : List ℕ). z ∷ l) e f)
    | inr n ↦ inr (λ f. n (ap (λ (l : List ℕ). drop 1 l) f))
  ]
  | inr n ↦ inr (λ f. n (ap (λ (l : List ℕ). get_or l 0 0) f))
]
