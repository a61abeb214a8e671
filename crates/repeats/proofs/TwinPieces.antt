-- Pieces that a group takes which hears transmissions twice.
use Rattle.std.proofs.Common.{◌≡◌, ℕ, ◌+◌, ◌≤◌, Bool, List, [], ◌∷◌, ◌++◌, Option, inl, inr, arith, refl, sym, ◌∙◌, ap, subst, append_assoc, append-nil}
use Rattle.receiver.specs.FrontSteps.{StaysAt}
use Rattle.receiver.specs.Fronts.{FrontIsAt}
use Rattle.receiver.specs.Heard.{HeardPage}
use Rattle.receiver.specs.Last.{IsShorterFront}
use Rattle.receiver.specs.Listeners.{is_one_of, ready_pages}
use Rattle.receiver.specs.Slots.{slots_in}
use Rattle.receiver.specs.declared.front.FrontEvent.{FrontEvent}
use Rattle.receiver.proofs.Last.{front_cases}
use Rattle.receiver.proofs.Pieces.{both_parts}
use Rattle.wires.specs.Fronts.{IsFront}
use Rattle.wires.specs.Pieces.{taken_of}
use Rattle.wires.proofs.Pieces.{taken_is, taken_twice}
use Rattle.repeats.specs.Twin.{heard_twice}
use Rattle.repeats.specs.TwinListeners.{TwinListener, StandsForTwice}
use Rattle.repeats.proofs.TwinFeeding.{TwinMet, twin_stands, twin_page}
use Rattle.repeats.proofs.TwinSteps.{heard_is_told}

-- a group took the first bits of a piece, which completed these pages, and these are left
pub record TwinFed (before after : TwinListener) (piece left : List Bool) (pages : List HeardPage) : Type 0 where
  pub whole : piece ≡ taken_of piece left ++ left
  pub capcodes : after.capcodes ≡ before.capcodes
  pub holders : after.holders ≡ before.holders
  pub stands : (bits : List Bool) → StandsForTwice before bits → StandsForTwice after (bits ++ taken_of piece left)
  pub page : (bits : List Bool) → StandsForTwice before bits
      → heard_twice (is_one_of before.capcodes) (bits ++ taken_of piece left) ≡ heard_twice (is_one_of before.capcodes) bits ++ pages

-- the steps count no more than the slots of what was taken
abbrev pub TwinCounts : TwinListener → ℕ → ℕ → List Bool → List Bool → Type 0
TwinCounts before n m piece left = (bits : List Bool) → StandsForTwice before bits → m + slots_in bits ≤ n + slots_in (bits ++ taken_of piece left)

nothing_more : (bits piece : List Bool) → bits ++ taken_of piece piece ≡ bits
nothing_more bits piece = ap (λ (xs : List Bool). bits ++ xs) (taken_is piece [] piece refl) ∙ append-nil bits

pub twin_fed_none : (listener : TwinListener) (piece : List Bool) → TwinFed listener listener piece piece []
twin_fed_none listener piece = record {
  whole = subst (λ (xs : List Bool). piece ≡ xs ++ piece) (sym (taken_is piece [] piece refl)) refl;
  capcodes = refl;
  holders = refl;
  stands = λ (bits : List Bool) (h : StandsForTwice listener bits). subst (λ (xs : List Bool). StandsForTwice listener xs) (sym (nothing_more bits piece)) h;
  page = λ (bits : List Bool) (h : StandsForTwice listener bits).
      ap (heard_twice (is_one_of listener.capcodes)) (nothing_more bits piece) ∙ sym (append-nil (heard_twice (is_one_of listener.capcodes) bits));
}

pub twin_counts_none : (listener : TwinListener) (n : ℕ) (piece : List Bool) → TwinCounts listener n n piece piece
twin_counts_none listener n piece bits h = let e = ap slots_in (nothing_more bits piece) in omega arith

pub twin_fed_then : (a b c : TwinListener) (piece left rest : List Bool) (pages : List HeardPage) → TwinFed a b piece left [] → TwinFed b c left rest pages → TwinFed a c piece rest pages
twin_fed_then a b c piece left rest pages f g =
    record {
      whole =
          f.whole ∙ ap (λ (xs : List Bool). taken_of piece left ++ xs) g.whole
          ∙ sym (append_assoc (taken_of piece left) (taken_of left rest) rest)
          ∙ ap (λ (xs : List Bool). xs ++ rest) (sym (taken_twice piece left rest f.whole g.whole));
      capcodes = g.capcodes ∙ f.capcodes;
      holders = g.holders ∙ f.holders;
      stands = λ (bits : List Bool) (h : StandsForTwice a bits).
          subst (λ (xs : List Bool). StandsForTwice c xs) (sym (both_parts bits piece left rest f.whole g.whole)) (g.stands (bits ++ taken_of piece left) (f.stands bits h));
      page = λ (bits : List Bool) (h : StandsForTwice a bits).
          let p : heard_twice (is_one_of a.capcodes) ((bits ++ taken_of piece left) ++ taken_of left rest) ≡ heard_twice (is_one_of a.capcodes) (bits ++ taken_of piece left) ++ pages =
          subst (λ (cs : List ℕ). heard_twice (is_one_of cs) ((bits ++ taken_of piece left) ++ taken_of left rest) ≡ heard_twice (is_one_of cs) (bits ++ taken_of piece left) ++ pages) f.capcodes
          (g.page (bits ++ taken_of piece left) (f.stands bits h)) in
          ap (heard_twice (is_one_of a.capcodes)) (both_parts bits piece left rest f.whole g.whole) ∙ p
          ∙ ap (λ (xs : List HeardPage). xs ++ pages) (f.page bits h ∙ append-nil (heard_twice (is_one_of a.capcodes) bits));
    }

pub twin_counts_then : (a b : TwinListener) (piece left rest : List Bool) (n m k : ℕ) → TwinFed a b piece left [] → left ≡ taken_of left rest ++ rest
    → TwinCounts a n m piece left → TwinCounts b m k left rest → TwinCounts a n k piece rest
twin_counts_then a b piece left rest n m k f e p q bits h =
    let x = p bits h in
    let y = q (bits ++ taken_of piece left) (f.stands bits h) in
    let z : slots_in (bits ++ taken_of piece rest) ≡ slots_in ((bits ++ taken_of piece left) ++ taken_of left rest) = ap slots_in (both_parts bits piece left rest f.whole e) in
    omega arith

-- it took the first bits of a piece, with which its front end met an event
pub twin_fed_met : (before after : TwinListener) (event joined : FrontEvent) (piece left : List Bool) → TwinMet before after event joined (taken_of piece left) → after.holders ≡ before.holders
    → piece ≡ taken_of piece left ++ left → TwinFed before after piece left (ready_pages after.ready)
twin_fed_met before after event joined piece left m holders whole = record {
  whole = whole;
  capcodes = m.capcodes;
  holders = holders;
  stands = twin_stands before after event joined (taken_of piece left) m;
  page = twin_page before after event joined (taken_of piece left) m;
}

-- ---- no page before the last bit that was taken

-- no front of what was taken completes a page
abbrev pub Quiet : TwinListener → List Bool → List Bool → Type 0
Quiet a piece left = (bits front : List Bool) → StandsForTwice a bits → IsFront front (taken_of piece left)
    → heard_twice (is_one_of a.capcodes) (bits ++ front) ≡ heard_twice (is_one_of a.capcodes) bits

no_front : (front rest : List Bool) → [] ≡ front ++ rest → front ≡ []
no_front [] rest e = refl
no_front (b ∷ front) rest e = cc

pub quiet_none : (listener : TwinListener) (piece : List Bool) → Quiet listener piece piece
quiet_none listener piece bits front here f =
    let none : front ≡ [] = no_front front f.rest (sym (taken_is piece [] piece refl) ∙ f.is) in
    ap (heard_twice (is_one_of listener.capcodes)) (ap (λ (xs : List Bool). bits ++ xs) none ∙ append-nil bits)

-- before the last of the bits that it takes, the front end stays where it is
abbrev pub Stays : TwinListener → List Bool → Type 0
Stays b taken = (bits front : List Bool) (before : List (List ℕ)) (words : Option (List ℕ)) → FrontIsAt b.front bits before words
    → IsShorterFront front taken → StaysAt (bits ++ front) before words

pub twin_last : (a b : TwinListener) (piece left rest : List Bool) → TwinFed a b piece left [] → Quiet a piece left → left ≡ taken_of left rest ++ rest
    → Stays b (taken_of left rest)
    → (bits front : List Bool) → StandsForTwice a bits → IsShorterFront front (taken_of piece rest)
    → heard_twice (is_one_of a.capcodes) (bits ++ front) ≡ heard_twice (is_one_of a.capcodes) bits
twin_last a b piece left rest f quiet e stays bits front here s =
    let listens = is_one_of a.capcodes in
    let t = taken_of piece left in
    let there = f.stands bits here in
    elim (front_cases front t (taken_of left rest) s.rest s.next (sym s.is ∙ taken_twice piece left rest f.whole e)) [
      | inl within ↦ quiet bits front here within
      | inr beyond ↦
          let w = stays (bits ++ t) beyond.0 there.before there.words there.at beyond.2 in
          ap (λ (xs : List Bool). heard_twice listens (bits ++ xs)) beyond.1 ∙ ap (heard_twice listens) (sym (append_assoc bits t beyond.0))
          ∙ heard_is_told w.0 ((bits ++ t) ++ beyond.0) listens there.before there.words w.1
          ∙ sym (heard_is_told b.front (bits ++ t) listens there.before there.words there.at)
          ∙ f.page bits here ∙ append-nil (heard_twice listens bits)
    ]

pub quiet_then : (a b c : TwinListener) (piece left rest : List Bool) → TwinFed a b piece left [] → Quiet a piece left → left ≡ taken_of left rest ++ rest
    → Stays b (taken_of left rest) → TwinFed a c piece rest [] → Quiet a piece rest
quiet_then a b c piece left rest f quiet e stays g bits front here h = all h.rest h.is
  where
    all : (behind : List Bool) → taken_of piece rest ≡ front ++ behind → heard_twice (is_one_of a.capcodes) (bits ++ front) ≡ heard_twice (is_one_of a.capcodes) bits
    all [] is =
        ap (λ (xs : List Bool). heard_twice (is_one_of a.capcodes) (bits ++ xs)) (sym (is ∙ append-nil front))
        ∙ g.page bits here ∙ append-nil (heard_twice (is_one_of a.capcodes) bits)
    all (b2 ∷ behind) is = twin_last a b piece left rest f quiet e stays bits front here record { next = b2; rest = behind; is = is }
