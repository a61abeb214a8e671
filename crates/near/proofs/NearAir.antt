-- What is heard of near transmissions, one after another.
use Rattle.std.proofs.Common.{◌≡◌, ℕ, suc, ◌*◌, ◌/◌, Bool, true, false, ◌&&◌, cond, List, [], ◌∷◌, ◌++◌, length, map, flat_map, arith, refl, sym, ◌∙◌, ap, ap₂, subst, append_assoc}
use Rattle.std.specs.List.{All, filter}
use Rattle.std.proofs.lemmas.List.{map-append}
use Rattle.std.proofs.lemmas.List.Elements.{All-head, All-tail, filter-append}
use Rattle.bits.specs.Bits.{word_bits}
use Rattle.page_text.specs.Page.{Page, IsAcceptable}
use Rattle.scheduler.specs.Slots.{in_frame, IsSchedule}
use Rattle.air.specs.Air.{batches, IsAir}
use Rattle.air.specs.Near.{IsNearAir, Near}
use Rattle.receiver.specs.Stretches.{first_stretches, first_words, stretches}
use Rattle.receiver.specs.Heard.{with_text, stretch_pages, heard}
use Rattle.receiver.specs.Slots.{stretch_slots}
use Rattle.codeword.specs.Words.{filler}
use Rattle.receiver.specs.Windows.{preamble_bits}
use Rattle.near.specs.NearAir.{AreUsable, NearAir, joined}
use Rattle.near.proofs.NearWords.{AreHeard, copy_parts, near_copy}
use Rattle.near.proofs.NearStretches.{After, nothing, next, FirstStretch, first_stretch}
use Rattle.near.proofs.NearPages.{IsKept, batches_in, schedule_pages}

-- ---- one transmission

-- what is heard of one transmission: a clean preamble, and the batches of its slots
record OneAir (accepted : List Page) (first : List Bool) : Type 0 where
  slots : List ℕ
  schedule : IsSchedule accepted slots
  n : ℕ
  whole_batches : length slots ≡ 16 * suc n
  body : List Bool
  first-is : first ≡ preamble_bits 18 ++ body
  long : length body ≡ 32 * length (batches (suc n) slots)
  heard : AreHeard (λ k. true) 0 (batches (suc n) slots) (first_words (length (batches (suc n) slots)) body)

one_air : (page : Page) (more : List Page) (air first : List Bool) → IsAir (page ∷ more) air → IsNearAir air first → OneAir (page ∷ more) first
one_air page more air first a near =
    let b = batches_in (page ∷ more) a.0 a.1 in
    let e : length a.0 / 16 ≡ suc b.0 = sixteenth b.0 b.1 in
    let parts = copy_parts (λ k. true) (batches (length a.0 / 16) a.0) first (near_copy _ first (subst (λ (xs : List Bool). IsNearAir xs first) a.2 near)) in
    record {
      slots = a.0;
      schedule = a.1;
      n = b.0;
      whole_batches = b.1;
      body = parts.body;
      first-is = parts.whole;
      long = subst (λ (k : ℕ). length parts.body ≡ 32 * length (batches k a.0)) e parts.long;
      heard = subst (λ (k : ℕ). AreHeard (λ j. true) 0 (batches k a.0) (first_words (length (batches k a.0)) parts.body)) e parts.heard;
    }
  where
    sixteenth : (n : ℕ) {l : ℕ} → l ≡ 16 * suc n → l / 16 ≡ suc n
    sixteenth n e = omega (arith, e)

-- ---- one transmission, and those after it

-- the pages of these stretches, with their texts
abbrev pages_in : (ℕ → Bool) → List (List ℕ) → List Page
pages_in listens found = map with_text (flat_map (stretch_pages listens) found)

kept_in-cons : (listens : ℕ → Bool) (kept : Page → Bool) (ws : List ℕ) (later : List (List ℕ))
    → filter kept (pages_in listens (ws ∷ later)) ≡ filter kept (map with_text (stretch_pages listens ws)) ++ filter kept (pages_in listens later)
kept_in-cons listens kept ws later =
    ap (filter kept) (map-append with_text (stretch_pages listens ws) (flat_map (stretch_pages listens) later))
    ∙ filter-append kept (map with_text (stretch_pages listens ws)) (pages_in listens later)

-- of the pages that a test keeps, those of these stretches are those of the lists
abbrev pub Hears : (ℕ → Bool) → (Page → Bool) → List (List Page) → List (List ℕ) → Type 0
Hears listens kept lists found = filter kept (pages_in listens found) ≡ filter kept (joined lists)

-- What follows a transmission: the stretches after it, and their pages.
record Later (listens : ℕ → Bool) (kept : Page → Bool) (lists : List (List Page)) (bits : List Bool) : Type 0 where
  later : List (List ℕ)
  after : After bits later
  hears : Hears listens kept lists later

hears_first : (listens : ℕ → Bool) (f : ℕ) (kept : Page → Bool) (accepted : List Page) (lists : List (List Page)) (slots : List ℕ) (all later : List (List ℕ))
    → AreUsable listens → IsKept listens f kept → All IsAcceptable accepted → IsSchedule accepted slots → FirstStretch (λ k. true) slots all later → Hears listens kept lists later
    → Hears listens kept (accepted ∷ lists) all
hears_first listens f kept accepted lists slots all later u k h s first rest =
    ap (λ (xs : List (List ℕ)). filter kept (pages_in listens xs)) first.first
    ∙ kept_in-cons listens kept first.words later
    ∙ ap₂ (λ (x y : List Page). x ++ y) (schedule_pages listens accepted slots (stretch_slots first.words) u h s first.heard f kept k) rest
    ∙ sym (filter-append kept accepted (joined lists))

-- no page gives no bits
nothing_first : (air first rest bits : List Bool) → air ≡ [] → IsNearAir air first → bits ≡ first ++ rest → bits ≡ rest
nothing_first air first rest bits e near h = h ∙ ap (λ (xs : List Bool). xs ++ rest) (no_bits first (near.whole ∙ ap length e))
  where
    no_bits : (xs : List Bool) → length xs ≡ 0 → xs ≡ []
    no_bits [] l = refl
    no_bits (x ∷ xs) l = absurd (omega arith)

later_heard : (listens : ℕ → Bool) (f : ℕ) (kept : Page → Bool) (lists : List (List Page)) (bits : List Bool) → AreUsable listens → IsKept listens f kept
    → All (All IsAcceptable) lists → Near lists bits → Later listens kept lists bits
unfolding Near
later_heard listens f kept [] bits u k h near = record {
  later = [];
  after = subst (λ (xs : List Bool). After xs []) (sym near) nothing;
  hears = refl;
}
later_heard listens f kept ([] ∷ lists) bits u k h near =
    let ih = later_heard listens f kept lists near.2 u k (All-tail (All IsAcceptable) [] lists h) near.5 in
    let e = nothing_first near.0 near.1 near.2 bits near.3 near.4 near.6 in
    record {
      later = ih.later;
      after = subst (λ (xs : List Bool). After xs ih.later) (sym e) ih.after;
      hears = ih.hears;
    }
later_heard listens f kept ((page ∷ more) ∷ lists) bits u k h near =
    let a = one_air page more near.0 near.1 near.3 near.4 in
    let ih = later_heard listens f kept lists near.2 u k (All-tail (All IsAcceptable) (page ∷ more) lists h) near.5 in
    let first = first_stretch (λ k. true) 17 a.n a.slots a.body near.2 ih.later a.whole_batches a.long (λ k z. refl) a.heard ih.after in
    let whole : bits ≡ word_bits filler ++ (preamble_bits 17 ++ (a.body ++ near.2)) =
    near.6 ∙ ap (λ (xs : List Bool). xs ++ near.2) a.first-is ∙ append_assoc (preamble_bits 18) a.body near.2
    ∙ append_assoc (word_bits filler) (preamble_bits 17) (a.body ++ near.2) in
    record {
      later = stretches (preamble_bits 17 ++ (a.body ++ near.2));
      after = subst (λ (xs : List Bool). After xs (stretches (preamble_bits 17 ++ (a.body ++ near.2)))) (sym whole) (next (preamble_bits 17 ++ (a.body ++ near.2)));
      hears = hears_first listens f kept (page ∷ more) lists a.slots (stretches (preamble_bits 17 ++ (a.body ++ near.2))) ih.later u k
          (All-head (All IsAcceptable) (page ∷ more) lists h) a.schedule first ih.hears;
    }

-- ---- all of them

stretches-nothing : stretches [] ≡ []
unfolding stretches first_stretches
stretches-nothing = refl

kept_heard : (listens : ℕ → Bool) (f : ℕ) (kept : Page → Bool) (lists : List (List Page)) (bits : List Bool) → AreUsable listens → IsKept listens f kept
    → All (All IsAcceptable) lists → Near lists bits → filter kept (map with_text (heard listens bits)) ≡ filter kept (joined lists)
unfolding Near
kept_heard listens f kept [] bits u k h near = ap (λ (xs : List (List ℕ)). filter kept (pages_in listens xs)) (ap stretches near ∙ stretches-nothing)
kept_heard listens f kept ([] ∷ lists) bits u k h near =
    let e = nothing_first near.0 near.1 near.2 bits near.3 near.4 near.6 in
    ap (λ (xs : List Bool). filter kept (map with_text (heard listens xs))) e
    ∙ kept_heard listens f kept lists near.2 u k (All-tail (All IsAcceptable) [] lists h) near.5
kept_heard listens f kept ((page ∷ more) ∷ lists) bits u k h near =
    let a = one_air page more near.0 near.1 near.3 near.4 in
    let rest = later_heard listens f kept lists near.2 u k (All-tail (All IsAcceptable) (page ∷ more) lists h) near.5 in
    let first = first_stretch (λ k. true) 18 a.n a.slots a.body near.2 rest.later a.whole_batches a.long (λ k z. refl) a.heard rest.after in
    let whole : bits ≡ preamble_bits 18 ++ (a.body ++ near.2) =
    near.6 ∙ ap (λ (xs : List Bool). xs ++ near.2) a.first-is ∙ append_assoc (preamble_bits 18) a.body near.2 in
    ap (λ (xs : List Bool). filter kept (map with_text (heard listens xs))) whole
    ∙ hears_first listens f kept (page ∷ more) lists a.slots (stretches (preamble_bits 18 ++ (a.body ++ near.2))) rest.later u k
    (All-head (All IsAcceptable) (page ∷ more) lists h) a.schedule first rest.hears

-- the pages of a set in a frame
filter-both : (p q : Page → Bool) (xs : List Page) → filter p (filter q xs) ≡ filter (λ x. q x && p x) xs
filter-both p q [] = refl
filter-both p q (x ∷ xs) = one (q x) ∙ ap (λ (ys : List Page). cond (q x && p x) (x ∷ ys) ys) (filter-both p q xs)
  where
    one : (b : Bool) → filter p (cond b (x ∷ filter q xs) (filter q xs)) ≡ cond (b && p x) (x ∷ filter p (filter q xs)) (filter p (filter q xs))
    one true = refl
    one false = refl

both-kept : (listens set : ℕ → Bool) (f : ℕ) → ((capcode : ℕ) → set capcode ≡ true → listens capcode ≡ true) → IsKept listens f (λ page. set page.capcode && in_frame f page)
both-kept listens set f within = record {
  frame = λ page e. and_true_right (set page.capcode) (in_frame f page) e;
  heard = λ page e. within page.capcode (and_true_left (set page.capcode) (in_frame f page) e);
}
  where
    and_true_left : (a b : Bool) → (a && b) ≡ true → a ≡ true
    and_true_left true b e = refl
    and_true_left false b e = e

    and_true_right : (a b : Bool) → (a && b) ≡ true → b ≡ true
    and_true_right true b e = e
    and_true_right false b e = absurd cc

pub near_air : NearAir
near_air listens lists bits u h near set f within =
    filter-both (in_frame f) (λ page. set page.capcode) (map with_text (heard listens bits))
    ∙ kept_heard listens f (λ page. set page.capcode && in_frame f page) lists bits u (both-kept listens set f within) h near
    ∙ sym (filter-both (in_frame f) (λ page. set page.capcode) (joined lists))
