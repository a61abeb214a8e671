-- Nothing is complete before the last of the bits that a front end takes of a piece.
use Rattle.std.proofs.Common.{◌≡◌, ℕ, ◌-◌, ◌⊎◌, inl, inr, Bool, true, false, List, [], ◌∷◌, ◌++◌, length, length-append, length-drop, drop, Option, Some, None, arith, refl, sym, ◌∙◌, ap, subst, append_assoc, append-nil}
use Rattle.receiver.specs.Registers.{last_32}
use Rattle.receiver.specs.Stretches.{after_sync}
use Rattle.receiver.specs.Slots.{entries}
use Rattle.receiver.specs.Heard.{heard}
use Rattle.receiver.specs.Locks.{Hunts}
use Rattle.receiver.specs.Fronts.{FrontEnd, front_end_of, FrontIsAt, FrontStandsFor, HasUnderWay, page_under_way}
use Rattle.receiver.specs.FrontSteps.{StaysAt}
use Rattle.receiver.specs.Last.{IsShorterFront}
use Rattle.receiver.specs.Listeners.{Listener, StandsFor, is_one_of}
use Rattle.receiver.specs.Steps.{HuntsThrough}
use Rattle.receiver.specs.declared.front.FrontEvent.TheVariants.{Still}
use Rattle.wires.specs.Fronts.{IsFront}
use Rattle.wires.specs.Pieces.{taken_of}
use Rattle.wires.proofs.Pieces.{taken_twice}
use Rattle.receiver.proofs.Feeding.{Feeds, Joined, shows_fed, hears_fed, goes_fed, still_hunting, still_locked}
use Rattle.receiver.proofs.Growing.{heard-grow}
use Rattle.receiver.proofs.Hunts.{last_32-push}
use Rattle.receiver.proofs.Pieces.{Fed}
use Rattle.receiver.proofs.Stretches.{after_sync-append}

-- whatever shorter front of these bits comes, the front end meets nothing
abbrev pub Waits : FrontEnd → List Bool → Type 0
Waits front taken = (more : List Bool) → IsShorterFront more taken → (after : FrontEnd) × Feeds front after Still more

-- ---- a hunt

last_32-twice : (bits : List Bool) → last_32 (last_32 bits ++ []) ≡ last_32 (bits ++ [])
last_32-twice bits =
    let d = length-drop (length bits - 32) bits in
    let z : length (last_32 bits) - 32 ≡ 0 = omega arith in
    ap last_32 (append-nil (last_32 bits)) ∙ ap (λ (n : ℕ). drop n (last_32 bits)) z ∙ sym (ap last_32 (append-nil bits))

-- the last bits of with_group bits
last_32-append : (more bits : List Bool) → last_32 (last_32 bits ++ more) ≡ last_32 (bits ++ more)
last_32-append [] bits = last_32-twice bits
last_32-append (b ∷ more) bits =
    ap last_32 (sym (append_assoc (last_32 bits) (b ∷ []) more))
    ∙ sym (last_32-append more (last_32 bits ++ b ∷ []))
    ∙ ap (λ (xs : List Bool). last_32 (xs ++ more)) (last_32-push bits b)
    ∙ last_32-append more (bits ++ b ∷ [])
    ∙ ap last_32 (append_assoc bits (b ∷ []) more)

none_of : (o : Option (List Bool)) → ((rest : List Bool) → o ≡ Some rest → ⊥) → o ≡ None
none_of None h = refl
none_of (Some rest) h = absurd (h rest refl)

some_ends : (xs : List Bool) (b : Bool) (ys : List Bool) → xs ++ b ∷ ys ≡ [] → ⊥
some_ends [] b ys e = let f : b ∷ ys ≡ [] = e in cc
some_ends (x ∷ xs) b ys e = let f : x ∷ (xs ++ b ∷ ys) ≡ [] = e in cc

-- where nothing stands behind a sync word in with_group bits, none is found in these
none_before : (bits more taken : List Bool) → IsShorterFront more taken → ((rest : List Bool) → after_sync (bits ++ taken) ≡ Some rest → rest ≡ []) → after_sync (bits ++ more) ≡ None
none_before bits more taken s ends =
    none_of (after_sync (bits ++ more)) (λ rest h.
    some_ends rest s.next s.rest (ends (rest ++ s.next ∷ s.rest)
    (ap (λ (xs : List Bool). after_sync (bits ++ xs)) s.is ∙ ap after_sync (sym (append_assoc bits more (s.next ∷ s.rest))) ∙ after_sync-append (bits ++ more) (s.next ∷ s.rest) rest h)))

hunt_waits : (place : ℕ) (kept taken : List Bool) → ((bits : List Bool) → Hunts kept bits → (rest : List Bool) → after_sync (bits ++ taken) ≡ Some rest → rest ≡ [])
    → Waits (front_end_of false place kept) taken
hunt_waits place kept taken ends more s = (
  front_end_of false place (last_32 (kept ++ more)),
  still_hunting false place kept (last_32 (kept ++ more)) more refl
      (λ (bits : List Bool) (h : Hunts kept bits). record {
        last = ap (λ (xs : List Bool). last_32 (xs ++ more)) h.last ∙ last_32-append more bits;
        none = none_before bits more taken s (ends bits h);
      }),
)

pub hunting_waits : (locked : Bool) (place : ℕ) (kept next piece left : List Bool) (is_found : Bool) → locked ≡ false → HuntsThrough kept next piece left is_found
    → Waits (front_end_of locked place kept) (taken_of piece left)
hunting_waits true place kept next piece left is_found is h = cc
hunting_waits false place kept next piece left true is h =
    hunt_waits place kept (taken_of piece left) (λ (bits : List Bool) (hunts : Hunts kept bits) (rest : List Bool) e.
    let f = (h.finds refl).0 bits hunts in let g : Some rest ≡ Some [] = sym e ∙ f in cc)
hunting_waits false place kept next piece left false is h =
    hunt_waits place kept (taken_of piece left) (λ (bits : List Bool) (hunts : Hunts kept bits) (rest : List Bool) e.
    let f = ((h.on refl).0 bits hunts).none in let g : Some rest ≡ None = sym e ∙ f in cc)

-- ---- a lock

pub locked_waits : (locked : Bool) (place : ℕ) (kept next taken : List Bool) → locked ≡ true → Joined kept next taken → Waits (front_end_of locked place kept) taken
locked_waits locked place kept next taken is j more s =
    let a = length-append more (s.next ∷ s.rest) in
    let e = ap length s.is in
    let f = j.fits in
    let l = length-append kept more in
    (front_end_of locked place (kept ++ more), still_locked locked place kept (kept ++ more) more is record { fits = omega arith; next-is = refl } (omega arith))

-- ---- what a front end is fed

pub no_entry : (front : FrontEnd) (taken : List Bool) → Waits front taken → (was : FrontEnd) → front ≡ was → (bits more : List Bool) → FrontStandsFor was bits
    → IsShorterFront more taken → entries (bits ++ more) ≡ entries bits
no_entry front taken waits was is bits more here s =
    let w = waits more s in
    (shows_fed front w.0 Still more w.1 was is bits here).table ∙ append-nil (entries bits)

pub no_page : (front : FrontEnd) (taken : List Bool) → Waits front taken → (was : FrontEnd) → front ≡ was → (listens : ℕ → Bool) (bits more : List Bool) → FrontStandsFor was bits
    → IsShorterFront more taken → heard listens (bits ++ more) ≡ heard listens bits
no_page front taken waits was is listens bits more here s =
    let w = waits more s in
    let page = page_under_way listens here.words in
    let under : HasUnderWay listens was page bits = record { before = here.before; words = here.words; at = here.at; page-is = refl } in
    (hears_fed front w.0 Still more w.1 was is listens page bits under).pages ∙ append-nil (heard listens bits)

pub still_there : (front : FrontEnd) (taken : List Bool) → Waits front taken → (was : FrontEnd) → front ≡ was
    → (bits more : List Bool) (before : List (List ℕ)) (words : Option (List ℕ)) → FrontIsAt was bits before words → IsShorterFront more taken
    → StaysAt (bits ++ more) before words
still_there front taken waits was is bits more before words here s =
    let w = waits more s in
    let g = goes_fed front w.0 Still more w.1 was is bits before words here in (
      w.0,
      subst (λ (found : List (List ℕ)). FrontIsAt w.0 (bits ++ more) found words) g.moves.0
          (subst (λ (o : Option (List ℕ)). FrontIsAt w.0 (bits ++ more) g.before_after o) g.moves.1 g.at),
    )

-- ---- a listener

-- a front of two lists is a front of the first, or goes on in the second
pub front_cases : (front first second rest : List Bool) (b : Bool) → front ++ b ∷ rest ≡ first ++ second
    → IsFront front first ⊎ ((more : List Bool) × (front ≡ first ++ more) × IsShorterFront more second)
front_cases front [] second rest b e = inr (front, refl, record { next = b; rest = rest; is = sym e })
front_cases [] (x ∷ first) second rest b e = inl (record { rest = x ∷ first; is = refl })
front_cases (y ∷ front) (x ∷ first) second rest b e =
    let same : y ≡ x = cc in
    let tail : front ++ b ∷ rest ≡ first ++ second = cc in
    elim (front_cases front first second rest b tail) [
      | inl f ↦ inl (record { rest = f.rest; is = ap (λ (xs : List Bool). x ∷ xs) f.is ∙ ap (λ (z : Bool). z ∷ (front ++ f.rest)) (sym same) })
      | inr g ↦ inr (g.0, ap (λ (xs : List Bool). y ∷ xs) g.1 ∙ ap (λ (z : Bool). z ∷ (first ++ g.0)) same, g.2)
    ]

none_more : {A : Type 0} (xs ys zs all : List A) → ys ≡ xs ++ zs → (rest : List A) → all ≡ ys ++ rest → all ≡ xs → ys ≡ xs
none_more {A} xs ys zs all e rest f g =
    let l = length-append xs zs in
    let m = length-append ys rest in
    let n = ap length e in
    let o = ap length f in
    let p = ap length g in
    let none : length zs ≡ 0 = omega arith in
    e ∙ ap (λ (ws : List A). xs ++ ws) (empty zs none) ∙ append-nil xs
  where
    empty : (ws : List A) → length ws ≡ 0 → ws ≡ []
    empty [] h = refl
    empty (w ∷ ws) h = absurd (omega (arith, h))

-- where no page is complete in bits that follow others, none is in a front of them
none_within : (listens : ℕ → Bool) (bits more front : List Bool) → heard listens (bits ++ more) ≡ heard listens bits → IsFront front more
    → heard listens (bits ++ front) ≡ heard listens bits
none_within listens bits more front none f =
    let first = heard-grow listens bits front in
    let second = heard-grow listens (bits ++ front) f.rest in
    let all : heard listens (bits ++ more) ≡ heard listens ((bits ++ front) ++ f.rest) =
    ap (λ (xs : List Bool). heard listens (bits ++ xs)) f.is ∙ ap (heard listens) (sym (append_assoc bits front f.rest)) in
    none_more (heard listens bits) (heard listens (bits ++ front)) first.rest (heard listens (bits ++ more)) first.is second.rest (all ∙ second.is) none

pub last_page : (a b : Listener) (piece left rest : List Bool) → Fed a b piece left [] → left ≡ taken_of left rest ++ rest
    → ((listens : ℕ → Bool) (bits front : List Bool) → FrontStandsFor b.front bits → IsShorterFront front (taken_of left rest) → heard listens (bits ++ front) ≡ heard listens bits)
    → (bits front : List Bool) → StandsFor a bits → IsShorterFront front (taken_of piece rest) → heard (is_one_of a.capcodes) (bits ++ front) ≡ heard (is_one_of a.capcodes) bits
last_page a b piece left rest f e last bits front here s =
    let listens = is_one_of a.capcodes in
    let t = taken_of piece left in
    let none : heard listens (bits ++ t) ≡ heard listens bits = f.page bits here ∙ append-nil (heard listens bits) in
    let there = f.stands bits here in
    elim (front_cases front t (taken_of left rest) s.rest s.next (sym s.is ∙ taken_twice piece left rest f.whole e)) [
      | inl within ↦ none_within listens bits t front none within
      | inr beyond ↦
          ap (λ (xs : List Bool). heard listens (bits ++ xs)) beyond.1 ∙ ap (heard listens) (sym (append_assoc bits t beyond.0))
          ∙ last listens (bits ++ t) beyond.0 (record { before = there.before; words = there.words; at = there.at }) beyond.2 ∙ none
    ]
