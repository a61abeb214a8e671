-- Further bits to a front end: each event.
use Rattle.std.proofs.Common.{◌≡◌, ℕ, ◌%◌, Bool, List, [], ◌∷◌, ◌++◌, length, Option, Some, None, refl, sym, ◌∙◌, ap, append_assoc, append-nil}
use Rattle.receiver.specs.Stretches.{first_words, words_of_bits}
use Rattle.receiver.specs.Locks.{Lock, Hunts, LockHolds}
use Rattle.receiver.specs.Fronts.{Hunt, Locking, HuntsAt, LocksAt, FrontIsAt}
use Rattle.receiver.specs.declared.front.HuntStep.TheVariants.{Still as HuntStill, Found}
use Rattle.receiver.specs.declared.front.LockStep.TheVariants.{Still as LockStill, Slot as LockSlot, Batch as LockBatch, Lost as LockLost}
use Rattle.receiver.specs.declared.front.FrontEvent.TheVariants.{Still, Batch, Slot, Lost}
use Rattle.receiver.specs.FrontSteps.{HasSyncWord, FrontGoesOn}
use Rattle.receiver.specs.Steps.{HuntGoesOn, LockGoesOn}
use Rattle.receiver.proofs.Fronts.{lost_is_past}

pub hunt_still : (h k : List Bool) (more : List Bool) → ((bits : List Bool) → Hunts h bits → HuntGoesOn (HuntStill k) (bits ++ more))
    → (bits : List Bool) (before : List (List ℕ)) (words : Option (List ℕ)) → FrontIsAt (Hunt h) bits before words → FrontGoesOn (Hunt k) Still before words (bits ++ more)
hunt_still h k more step bits before words at =
    let a = at.0 in
    let now : HuntsAt k (bits ++ more) before = record {
      past = a.past;
      piece = a.piece ++ more;
      whole = ap (λ (xs : List Bool). xs ++ more) a.whole ∙ append_assoc a.past a.piece more;
      earlier = a.earlier;
      hunts = step a.piece a.hunts;
    } in
    record { before_after = before; words_after = words; at = (now, at.1); moves = (refl, refl) }

begins_after : (words : Option (List ℕ)) → words ≡ None → HasSyncWord words (Some [])
begins_after None h = refl
begins_after (Some ws) h = cc

pub hunt_found : (h : List Bool) (l : Lock) (more : List Bool) → ((bits : List Bool) → Hunts h bits → HuntGoesOn (Found l) (bits ++ more))
    → (bits : List Bool) (before : List (List ℕ)) (words : Option (List ℕ)) → FrontIsAt (Hunt h) bits before words → FrontGoesOn (Locking l) Batch before words (bits ++ more)
unfolding first_words
hunt_found h l more step bits before words at =
    let a = at.0 in
    let s = step a.piece a.hunts in
    let now : LocksAt l (bits ++ more) before [] = record {
      past = a.past;
      window = a.piece ++ more;
      rest = [];
      whole = ap (λ (xs : List Bool). xs ++ more) a.whole ∙ append_assoc a.past a.piece more ∙ ap (λ (xs : List Bool). a.past ++ xs) (sym (append-nil (a.piece ++ more)));
      earlier = a.earlier;
      found = s.0;
      holds = s.1;
      words-is = refl;
    } in
    record { before_after = before; words_after = Some []; at = ([], now, refl); moves = (refl, begins_after words at.1) }

-- a lock over a longer rest
further : (l m : Lock) (more : List Bool) (bits : List Bool) (before : List (List ℕ)) (words after : List ℕ) → (a : LocksAt l bits before words)
    → LockHolds m (a.rest ++ more) → after ≡ words_of_bits (a.rest ++ more) → LocksAt m (bits ++ more) before after
further l m more bits before words after a holds is = record {
  past = a.past;
  window = a.window;
  rest = a.rest ++ more;
  whole = ap (λ (xs : List Bool). xs ++ more) a.whole ∙ append_assoc a.past (a.window ++ a.rest) more ∙ ap (λ (xs : List Bool). a.past ++ xs) (append_assoc a.window a.rest more);
  earlier = a.earlier;
  found = a.found;
  holds = holds;
  words-is = is;
}

pub lock_still : (l m : Lock) (more : List Bool) → ((bits : List Bool) → LockHolds l bits → LockGoesOn (LockStill m) bits (bits ++ more))
    → (bits : List Bool) (before : List (List ℕ)) (words : Option (List ℕ)) → FrontIsAt (Locking l) bits before words → FrontGoesOn (Locking m) Still before words (bits ++ more)
lock_still l m more step bits before words at =
    let a = at.1 in
    let s = step a.rest a.holds in
    let now = further l m more bits before at.0 at.0 a s.0 (a.words-is ∙ sym s.1) in
    record { before_after = before; words_after = words; at = (at.0, now, at.2); moves = (refl, refl) }

batch_after : (words : Option (List ℕ)) (ws : List ℕ) (w : ℕ) → words ≡ Some ws → length ws % 17 ≡ 16 → HasSyncWord words (Some (ws ++ w ∷ []))
batch_after None ws w h p = cc
batch_after (Some vs) ws w h p = let e : vs ≡ ws = cc in (w, ap (λ (xs : List ℕ). Some (xs ++ w ∷ [])) (sym e), ap (λ (xs : List ℕ). length xs % 17) e ∙ p)

pub lock_batch : (l m : Lock) (more : List Bool) → ((bits : List Bool) → LockHolds l bits → LockGoesOn (LockBatch m) bits (bits ++ more))
    → (bits : List Bool) (before : List (List ℕ)) (words : Option (List ℕ)) → FrontIsAt (Locking l) bits before words → FrontGoesOn (Locking m) Batch before words (bits ++ more)
lock_batch l m more step bits before words at =
    let a = at.1 in
    let s = step a.rest a.holds in
    let now = further l m more bits before at.0 (at.0 ++ s.1 ∷ []) a s.0 (ap (λ (xs : List ℕ). xs ++ s.1 ∷ []) a.words-is ∙ sym s.2) in
    record {
      before_after = before;
      words_after = Some (at.0 ++ s.1 ∷ []);
      at = (at.0 ++ s.1 ∷ [], now, refl);
      moves = (refl, batch_after words at.0 s.1 at.2 (ap (λ (xs : List ℕ). length xs % 17) a.words-is ∙ s.3));
    }

pub lock_slot : (l m : Lock) (place w : ℕ) (more : List Bool) → ((bits : List Bool) → LockHolds l bits → LockGoesOn (LockSlot m place w) bits (bits ++ more))
    → (bits : List Bool) (before : List (List ℕ)) (words : Option (List ℕ)) → FrontIsAt (Locking l) bits before words → FrontGoesOn (Locking m) (Slot place w) before words (bits ++ more)
lock_slot l m place w more step bits before words at =
    let a = at.1 in
    let s = step a.rest a.holds in
    let now = further l m more bits before at.0 (at.0 ++ w ∷ []) a s.0 (ap (λ (xs : List ℕ). xs ++ w ∷ []) a.words-is ∙ sym s.1) in
    record {
      before_after = before;
      words_after = Some (at.0 ++ w ∷ []);
      at = (at.0 ++ w ∷ [], now, refl);
      moves = (refl, at.0, at.2, refl, ap (λ (xs : List ℕ). length xs % 17) a.words-is ∙ s.2, s.3);
    }

pub lock_lost : (l : Lock) (h : List Bool) (more : List Bool) → ((bits : List Bool) → LockHolds l bits → LockGoesOn (LockLost h) bits (bits ++ more))
    → (bits : List Bool) (before : List (List ℕ)) (words : Option (List ℕ)) → FrontIsAt (Locking l) bits before words → FrontGoesOn (Hunt h) Lost before words (bits ++ more)
lock_lost l h more step bits before words at =
    let a = at.1 in
    let s = step a.rest a.holds in
    let now : HuntsAt h (bits ++ more) (before ++ at.0 ∷ []) = record {
      past = bits ++ more;
      piece = [];
      whole = sym (append-nil (bits ++ more));
      earlier = lost_is_past l bits before at.0 more a s.1 (s.2 ∙ sym a.words-is);
      hunts = s.0;
    } in
    record { before_after = before ++ at.0 ∷ []; words_after = None; at = (now, refl); moves = (at.0, at.2, refl, refl) }
