-- What is heard of a front of bits is a front of what is heard of all.
use Rattle.std.proofs.Common.{◌≡◌, ℕ, zero, suc, ◌≤◌, ◌⊎◌, inl, inr, Bool, true, false, List, [], ◌∷◌, ◌++◌, append-nil, length, flat_map, Option, Some, None, refl, sym, ◌∙◌, ap, ap₂, subst, arith}
use Rattle.std.specs.Prelude.{map}
use Rattle.std.proofs.lemmas.Grind.{flat_map-append}
use Rattle.std.proofs.lemmas.List.{map-append}
use Rattle.codeword.specs.declared.kinds.WordKind.{WordKind}
use Rattle.codeword.specs.Kinds.{kind_of}
use Rattle.page_text.specs.Page.{Page}
use Rattle.wires.specs.Fronts.{Grows, IsFront}
use Rattle.wires.proofs.Fronts.{front_append, front_behind, front_then, grows_by_one}
use Rattle.receiver.specs.Growing.{EntriesGrow, PagesGrow, ShownGrow}
use Rattle.receiver.specs.Heard.{HeardPage, heard, pages_from, kinds_in, stretch_pages, with_text}
use Rattle.receiver.specs.Shown.{shown, shown_page}
use Rattle.receiver.specs.Slots.{Batch, TableEntry, entries_from, stretch_slots, stretch_entries}
use Rattle.receiver.specs.Stretches.{after_loss, after_sync, held_from, held_with, held_words, is_sync, is_sync_place, later_with, loss_from, loss_with, stretches, stretches_with, words_of_bits}
use Rattle.receiver.proofs.Hunts.{short_finds}
use Rattle.receiver.proofs.Locks.{held_from-whole, not_lost}
use Rattle.receiver.proofs.Pages.{pages_from-push}
use Rattle.receiver.proofs.Slots.{entries_from-push, slots_from-push}
use Rattle.receiver.proofs.Stretches.{after_loss-append, after_sync-append, length-after_sync, stretches-is, words_of-append}

-- ---- the words of a lock

pub option_cases : {A : Type 0} (o : Option A) → (o ≡ None) ⊎ ((x : A) × (o ≡ Some x))
option_cases None = inl refl
option_cases (Some x) = inr (x, refl)

-- a lock that isn't lost in these words holds them, and what it holds of more begins with them
held_front : (k : ℕ) (ws vs : List ℕ) → loss_from k ws ≡ None → IsFront ws (held_from k (ws ++ vs))
unfolding held_from loss_from
held_front k [] vs h = record { rest = held_from k vs; is = refl }
held_front k (w ∷ ws) vs h = goes (is_sync_place k) (is_sync w) (loss_from (suc k) ws) h (held_front (suc k) ws vs)
  where
    goes : (p g : Bool) (o : Option ℕ) → loss_with p g o ≡ None → (o ≡ None → IsFront ws (held_from (suc k) (ws ++ vs)))
        → IsFront (w ∷ ws) (held_with p g w (held_from (suc k) (ws ++ vs)))
    goes false g None e f = let r = f refl in record { rest = r.rest; is = ap (λ (zs : List ℕ). w ∷ zs) r.is }
    goes false g (Some n) e f = absurd (let q : Some (suc n) ≡ None = e in cc)
    goes true false o e f = absurd (let q : Some 1 ≡ None = e in cc)
    goes true true None e f = let r = f refl in record { rest = r.rest; is = ap (λ (zs : List ℕ). w ∷ zs) r.is }
    goes true true (Some n) e f = absurd (let q : Some (suc n) ≡ None = e in cc)

pub held_words-front : (bits more : List Bool) → after_loss bits ≡ None → IsFront (held_words bits) (held_words (bits ++ more))
held_words-front bits more none =
    let l = not_lost bits none in
    let w = words_of-append bits more in
    let r : IsFront (words_of_bits bits) (held_from 0 (words_of_bits bits ++ w.0)) = held_front 0 (words_of_bits bits) w.0 l in
    record { rest = r.rest; is = ap (held_from 0) w.1 ∙ (r.is ∙ ap (λ (zs : List ℕ). zs ++ r.rest) (sym (held_from-whole 0 (words_of_bits bits) l))) }

-- ---- the stretches

-- nothing is found
none_found : {X : Type 0} (f : List ℕ → List X) (bits more : List Bool) → after_sync bits ≡ None → IsFront (flat_map f (stretches bits)) (flat_map f (stretches (bits ++ more)))
none_found f bits more none =
    let e : flat_map f (stretches bits) ≡ [] = ap (flat_map f) (stretches-is bits ∙ ap (stretches_with stretches) none) in
    record { rest = flat_map f (stretches (bits ++ more)); is = ap (λ (zs : List _). zs ++ flat_map f (stretches (bits ++ more))) (sym e) }

-- what is put together of each stretch grows, where what a stretch gives grows
stretches-grow : {X : Type 0} (f : List ℕ → List X) → Grows f → (n : ℕ) (bits more : List Bool) → length bits ≤ n
    → IsFront (flat_map f (stretches bits)) (flat_map f (stretches (bits ++ more)))
stretches-grow f g zero bits more le = none_found f bits more (short_finds bits (omega arith))
stretches-grow f g (suc n) bits more le = elim (option_cases (after_sync bits)) [
  | inl none ↦ none_found f bits more none
  | inr found ↦
      let rest = found.0 in
      let short = length-after_sync bits rest found.1 in
      let was : stretches bits ≡ held_words rest ∷ later_with stretches (after_loss rest) = stretches-is bits ∙ ap (stretches_with stretches) found.1 in
      let now : stretches (bits ++ more) ≡ held_words (rest ++ more) ∷ later_with stretches (after_loss (rest ++ more)) =
      stretches-is (bits ++ more) ∙ ap (stretches_with stretches) (after_sync-append bits more rest found.1) in
      elim (option_cases (after_loss rest)) [
        | inl whole ↦
            let h = held_words-front rest more whole in
            let e : flat_map f (stretches bits) ≡ f (held_words rest) =
            ap (flat_map f) (was ∙ ap (λ (o : Option (List Bool)). held_words rest ∷ later_with stretches o) whole) ∙ append-nil (f (held_words rest)) in
            let k : IsFront (f (held_words rest)) (f (held_words (rest ++ more))) = subst (λ (ws : List ℕ). IsFront (f (held_words rest)) (f ws)) (sym h.is) (g (held_words rest) h.rest) in
            let all = front_then (f (held_words rest)) (f (held_words (rest ++ more))) (f (held_words (rest ++ more)) ++ flat_map f (later_with stretches (after_loss (rest ++ more)))) k
            (front_append (f (held_words (rest ++ more))) (flat_map f (later_with stretches (after_loss (rest ++ more))))) in
            subst (λ (zs : List _). IsFront zs (flat_map f (stretches (bits ++ more)))) (sym e) (subst (λ (zs : List _). IsFront (f (held_words rest)) zs) (ap (flat_map f) (sym now)) all)
        | inr lost ↦
            let left = lost.0 in
            let on = after_loss-append rest more left lost.1 in
            let e : flat_map f (stretches bits) ≡ f (held_words rest) ++ flat_map f (stretches left) =
            ap (flat_map f) (was ∙ ap (λ (o : Option (List Bool)). held_words rest ∷ later_with stretches o) lost.1) in
            let e2 : flat_map f (stretches (bits ++ more)) ≡ f (held_words rest) ++ flat_map f (stretches (left ++ more)) =
            ap (flat_map f) (now ∙ ap₂ (λ (ws : List ℕ) (o : Option (List Bool)). ws ∷ later_with stretches o) on.1 on.0) in
            let k = front_behind (f (held_words rest)) (flat_map f (stretches left)) (flat_map f (stretches (left ++ more))) (stretches-grow f g n left more (omega (arith, short, on.2, le))) in
            subst (λ (zs : List _). IsFront zs (flat_map f (stretches (bits ++ more)))) (sym e) (subst (λ (zs : List _). IsFront (f (held_words rest) ++ flat_map f (stretches left)) zs) (sym e2) k)
      ]
]

-- ---- pages and entries of a stretch

pub slots_of-grow : Grows stretch_slots
slots_of-grow = grows_by_one stretch_slots (λ ws w. record { rest = _; is = slots_from-push 0 ws w })

stretch_pages-grow : (listens : ℕ → Bool) → Grows (stretch_pages listens)
stretch_pages-grow listens xs ys =
    let s = slots_of-grow xs ys in
    subst (λ (ks : List (Option WordKind)). IsFront (stretch_pages listens xs) (pages_from listens 0 ks)) (sym (ap (map kind_of) s.is ∙ map-append kind_of (stretch_slots xs) s.rest))
    (grows_by_one (pages_from listens 0) (λ ws w. record { rest = _; is = pages_from-push listens 0 ws w }) (kinds_in xs) (map kind_of s.rest))

stretch_entries-grow : Grows stretch_entries
stretch_entries-grow xs ys =
    let h : IsFront (entries_from 0 xs) (entries_from 0 (xs ++ ys)) = grows_by_one (entries_from 0) (λ ws w. record { rest = _; is = entries_from-push 0 ws w }) xs ys in
    record { rest = h.rest; is = ap (λ (es : List TableEntry). Batch ∷ es) h.is }

-- ---- what is heard

pub heard-grow : PagesGrow
heard-grow listens bits more = stretches-grow (stretch_pages listens) (stretch_pages-grow listens) (length bits) bits more (omega arith)

pub shown-grow : ShownGrow
shown-grow listens has bits more =
    let h = heard-grow listens bits more in
    record {
      rest = shown has (map with_text h.rest);
      is =
          ap (λ (pages : List HeardPage). shown has (map with_text pages)) h.is
          ∙ (ap (λ (pages : List Page). shown has pages) (map-append with_text (heard listens bits) h.rest)
          ∙ flat_map-append (shown_page has) (map with_text (heard listens bits)) (map with_text h.rest));
    }

pub entries-grow : EntriesGrow
entries-grow bits more = stretches-grow stretch_entries stretch_entries-grow (length bits) bits more (omega arith)
