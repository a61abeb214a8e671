-- The stretches of the bits that a front end was fed.
use Rattle.std.proofs.Common.{◌≡◌, ℕ, Bool, List, [], ◌∷◌, ◌++◌, Option, Some, None, refl, sym, ◌∙◌, ap, ap₂, append_assoc, append-nil}
use Rattle.receiver.specs.Stretches.{words_of_bits, held_words, after_loss, later_with, stretches_with, stretches}
use Rattle.receiver.specs.Locks.{Lock, Hunts}
use Rattle.receiver.specs.Fronts.{FrontEnd, Hunt, Locking, IsPast, HuntsAt, LocksAt, FrontIsAt, FrontStandsFor, HasUnderWay}
use Rattle.receiver.proofs.Locks.{not_lost, held_from-whole}
use Rattle.receiver.proofs.Stretches.{stretches-is, after_sync-append, after_loss-append}

-- these stretches, and the one under way
abbrev pub so_far : List (List ℕ) → Option (List ℕ) → List (List ℕ)
so_far before None = before
so_far before (Some words) = before ++ words ∷ []

hunt_stretches : (h : List Bool) (bits : List Bool) (before : List (List ℕ)) → HuntsAt h bits before → stretches bits ≡ before
hunt_stretches h bits before a =
    ap stretches a.whole ∙ a.earlier.all a.piece
    ∙ ap (λ (xs : List (List ℕ)). before ++ xs) (stretches-is a.piece ∙ ap (stretches_with stretches) a.hunts.none) ∙ append-nil before

lock_stretches : (l : Lock) (bits : List Bool) (before : List (List ℕ)) (words : List ℕ) → LocksAt l bits before words → stretches bits ≡ before ++ words ∷ []
lock_stretches l bits before words a =
    let w : held_words a.rest ≡ words = held_from-whole 0 (words_of_bits a.rest) (not_lost a.rest a.holds.held) ∙ sym a.words-is in
    ap stretches a.whole ∙ a.earlier.all (a.window ++ a.rest)
    ∙ ap (λ (xs : List (List ℕ)). before ++ xs)
    (stretches-is (a.window ++ a.rest) ∙ ap (stretches_with stretches) (after_sync-append a.window a.rest [] a.found)
    ∙ ap₂ (λ (s : List ℕ) (o : Option (List Bool)). s ∷ later_with stretches o) w a.holds.held)

-- the stretches of the bits that a front end was fed
pub front_stretches : (front : FrontEnd) (bits : List Bool) (before : List (List ℕ)) (words : Option (List ℕ)) → FrontIsAt front bits before words → stretches bits ≡ so_far before words
front_stretches (Hunt hunting) bits before words at = hunt_stretches hunting bits before at.0 ∙ ap (so_far before) (sym at.1)
front_stretches (Locking locked) bits before words at = lock_stretches locked bits before at.0 at.1 ∙ ap (so_far before) (sym at.2)

-- a lock that was lost is past
pub lost_is_past : (l : Lock) (bits : List Bool) (before : List (List ℕ)) (words : List ℕ) (more : List Bool) → (a : LocksAt l bits before words)
    → after_loss (a.rest ++ more) ≡ Some [] → held_words (a.rest ++ more) ≡ words
    → IsPast (bits ++ more) (before ++ words ∷ [])
lost_is_past l bits before words more a lost is = record {
  all = λ later.
      let now = after_loss-append (a.rest ++ more) later [] lost in
      ap (λ (xs : List Bool). stretches ((xs ++ more) ++ later)) a.whole
      ∙ ap stretches (regroup a.past a.window a.rest more later)
      ∙ a.earlier.all (a.window ++ ((a.rest ++ more) ++ later))
      ∙ ap (λ (xs : List (List ℕ)). before ++ xs)
      (stretches-is (a.window ++ ((a.rest ++ more) ++ later))
      ∙ ap (stretches_with stretches) (after_sync-append a.window ((a.rest ++ more) ++ later) [] a.found)
      ∙ ap₂ (λ (s : List ℕ) (o : Option (List Bool)). s ∷ later_with stretches o) (now.1 ∙ is) now.0)
      ∙ sym (append_assoc before (words ∷ []) (stretches later));
}
  where
    regroup : (p w r x y : List Bool) → ((p ++ (w ++ r)) ++ x) ++ y ≡ p ++ (w ++ ((r ++ x) ++ y))
    regroup p w r x y = simp append_assoc

-- a hunt that was fed no bit
pub starts_at : (hunting : List Bool) → Hunts hunting [] → FrontIsAt (Hunt hunting) [] [] None
starts_at hunting h = (
  record {
    past = [];
    piece = [];
    whole = refl;
    earlier = record { all = λ more. refl };
    hunts = h;
  },
  refl,
)

pub starts : (hunting : List Bool) → Hunts hunting [] → FrontStandsFor (Hunt hunting) []
starts hunting h = record { before = []; words = None; at = starts_at hunting h }

pub starts_without_page : (listens : ℕ → Bool) (hunting : List Bool) → Hunts hunting [] → HasUnderWay listens (Hunt hunting) None []
starts_without_page listens hunting h = record { before = []; words = None; at = starts_at hunting h; page-is = refl }
