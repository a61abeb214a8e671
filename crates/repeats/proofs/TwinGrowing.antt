-- What is heard twice in a front of bits is a front of what is heard twice in all.
use Rattle.std.proofs.Common.{◌≡◌, ℕ, zero, suc, ◌≤◌, inl, inr, Bool, List, [], ◌∷◌, ◌++◌, append-nil, length, flat_map, take, Option, Some, None, refl, sym, ◌∙◌, ap, ap₂, subst, arith}
use Rattle.std.specs.Prelude.{map}
use Rattle.std.proofs.lemmas.List.{map-append}
use Rattle.codeword.specs.declared.kinds.WordKind.{WordKind}
use Rattle.wires.specs.Fronts.{Grows, IsFront}
use Rattle.wires.proofs.Fronts.{front_append, front_behind, front_then, grows_by_one}
use Rattle.receiver.specs.Heard.{HeardPage, pages_from}
use Rattle.receiver.specs.Slots.{stretch_slots}
use Rattle.receiver.specs.Stretches.{after_loss, after_sync, held_words, later_with, stretches, stretches_with}
use Rattle.receiver.proofs.Growing.{held_words-front, option_cases, slots_of-grow}
use Rattle.receiver.proofs.Hunts.{short_finds}
use Rattle.receiver.proofs.Pages.{pages_from-push}
use Rattle.receiver.proofs.Stretches.{after_loss-append, after_sync-append, length-after_sync, stretches-is}
use Rattle.repeats.specs.Twin.{held_slots, heard_twice, says, twin, twin_pages, twins}
use Rattle.repeats.specs.TwinGrowing.{TwicePagesGrow}
use Rattle.repeats.proofs.TwinSteps.{twin_push}

-- ---- longer stretches

-- Stretches of longer bits: those that were lost are the same, and the last one may go on.
abbrev GoOn : List (List ℕ) → List (List ℕ) → Type 0
GoOn [] ys = Unit {0}
GoOn (x ∷ []) ys = (y : List ℕ) × (rest : List (List ℕ)) × (ys ≡ y ∷ rest) × IsFront x y
GoOn (x ∷ x2 ∷ xs) ys = (rest : List (List ℕ)) × (ys ≡ x ∷ rest) × GoOn (x2 ∷ xs) rest

-- the same stretch before both
go_on_behind : (x : List ℕ) (xs ys : List (List ℕ)) → GoOn xs ys → GoOn (x ∷ xs) (x ∷ ys)
go_on_behind x [] ys h = (x, ys, refl, record { rest = []; is = sym (append-nil x) })
go_on_behind x (y ∷ xs) ys h = (ys, refl, h)

-- nothing is found
none_go_on : (bits : List Bool) (ys : List (List ℕ)) → after_sync bits ≡ None → GoOn (stretches bits) ys
none_go_on bits ys none = subst (λ (xs : List (List ℕ)). GoOn xs ys) (sym (stretches-is bits ∙ ap (stretches_with stretches) none)) tt

stretches_go_on : (n : ℕ) (bits more : List Bool) → length bits ≤ n → GoOn (stretches bits) (stretches (bits ++ more))
stretches_go_on zero bits more le = none_go_on bits (stretches (bits ++ more)) (short_finds bits (omega arith))
stretches_go_on (suc n) bits more le = elim (option_cases (after_sync bits)) [
  | inl none ↦ none_go_on bits (stretches (bits ++ more)) none
  | inr found ↦
      let rest = found.0 in
      let short = length-after_sync bits rest found.1 in
      let was : stretches bits ≡ held_words rest ∷ later_with stretches (after_loss rest) = stretches-is bits ∙ ap (stretches_with stretches) found.1 in
      let now : stretches (bits ++ more) ≡ held_words (rest ++ more) ∷ later_with stretches (after_loss (rest ++ more)) =
      stretches-is (bits ++ more) ∙ ap (stretches_with stretches) (after_sync-append bits more rest found.1) in
      elim (option_cases (after_loss rest)) [
        | inl whole ↦
            let e : stretches bits ≡ held_words rest ∷ [] = was ∙ ap (λ (o : Option (List Bool)). held_words rest ∷ later_with stretches o) whole in
            subst (λ (xs : List (List ℕ)). GoOn xs (stretches (bits ++ more))) (sym e)
            (held_words (rest ++ more), later_with stretches (after_loss (rest ++ more)), now, held_words-front rest more whole)
        | inr lost ↦
            let left = lost.0 in
            let on = after_loss-append rest more left lost.1 in
            let e : stretches bits ≡ held_words rest ∷ stretches left = was ∙ ap (λ (o : Option (List Bool)). held_words rest ∷ later_with stretches o) lost.1 in
            let e2 : stretches (bits ++ more) ≡ held_words rest ∷ stretches (left ++ more) =
            now ∙ ap₂ (λ (ws : List ℕ) (o : Option (List Bool)). ws ∷ later_with stretches o) on.1 on.0 in
            subst (λ (xs : List (List ℕ)). GoOn xs (stretches (bits ++ more))) (sym e)
            (subst (λ (ys : List (List ℕ)). GoOn (held_words rest ∷ stretches left) ys) (sym e2)
            (go_on_behind (held_words rest) (stretches left) (stretches (left ++ more)) (stretches_go_on n left more (omega (arith, short, on.2, le)))))
      ]
]

-- ---- the pages of a twin stretch

said_twice-grow : (held : List ℕ) → Grows (λ (seconds : List ℕ). map says (twin held seconds))
said_twice-grow held = grows_by_one (λ (seconds : List ℕ). map says (twin held seconds)) (λ ss w. record { rest = _; is = twin_push held ss w })

pages_from-grow : (listens : ℕ → Bool) → Grows (pages_from listens 0)
pages_from-grow listens = grows_by_one (pages_from listens 0) (λ ks k. record { rest = _; is = pages_from-push listens 0 ks k })

twin_pages-grow : (listens : ℕ → Bool) (held x y : List ℕ) → IsFront x y
    → IsFront (twin_pages listens (twin held (stretch_slots x))) (twin_pages listens (twin held (stretch_slots y)))
twin_pages-grow listens held x y h =
    let s = slots_of-grow x h.rest in
    let t = said_twice-grow held (stretch_slots x) s.rest in
    let e : stretch_slots y ≡ stretch_slots x ++ s.rest = ap stretch_slots h.is ∙ s.is in
    let k : map says (twin held (stretch_slots y)) ≡ map says (twin held (stretch_slots x)) ++ t.rest = ap (λ (ss : List ℕ). map says (twin held ss)) e ∙ t.is in
    subst (λ (ks : List (Option WordKind)). IsFront (twin_pages listens (twin held (stretch_slots x))) (pages_from listens 0 ks)) (sym k)
    (pages_from-grow listens (map says (twin held (stretch_slots x))) t.rest)

-- ---- what is heard twice

-- the pages of the twin stretches of these
abbrev twice_in : (ℕ → Bool) → List (List ℕ) → List HeardPage
twice_in listens found = flat_map (twin_pages listens) (twins found)

pages-go_on : (listens : ℕ → Bool) (xs ys : List (List ℕ)) → GoOn xs ys → IsFront (twice_in listens xs) (twice_in listens ys)
unfolding twins
pages-go_on listens [] ys h = record { rest = twice_in listens ys; is = refl }
pages-go_on listens (x ∷ []) ys h = record { rest = twice_in listens ys; is = refl }
pages-go_on listens (x ∷ x2 ∷ []) ys h =
    let held = take held_slots (stretch_slots x) in
    let last = h.2 in
    let e : ys ≡ x ∷ last.0 ∷ last.1 = h.1 ∙ ap (λ (rest : List (List ℕ)). x ∷ rest) last.2 in
    let p = twin_pages listens (twin held (stretch_slots x2)) in
    let q = twin_pages listens (twin held (stretch_slots last.0)) in
    subst (λ (zs : List (List ℕ)). IsFront (p ++ []) (twice_in listens zs)) (sym e)
    (subst (λ (zs : List HeardPage). IsFront zs (q ++ twice_in listens last.1)) (sym (append-nil p))
    (front_then p q (q ++ twice_in listens last.1) (twin_pages-grow listens held x2 last.0 last.3) (front_append q (twice_in listens last.1))))
pages-go_on listens (x ∷ x2 ∷ x3 ∷ xs) ys h =
    let more = h.2 in
    let e : ys ≡ x ∷ x2 ∷ more.0 = h.1 ∙ ap (λ (rest : List (List ℕ)). x ∷ rest) more.1 in
    subst (λ (zs : List (List ℕ)). IsFront (twice_in listens (x ∷ x2 ∷ x3 ∷ xs)) (twice_in listens zs)) (sym e)
    (front_behind (twin_pages listens (twin (take held_slots (stretch_slots x)) (stretch_slots x2))) (twice_in listens (x3 ∷ xs)) (twice_in listens more.0)
    (pages-go_on listens (x3 ∷ xs) more.0 more.2))

pub heard_twice-grow : TwicePagesGrow
heard_twice-grow listens bits more = pages-go_on listens (stretches bits) (stretches (bits ++ more)) (stretches_go_on (length bits) bits more (omega arith))
