-- What is heard of a transmission that is sent twice, each word near or with no codeword.
use Rattle.std.proofs.Common.{◌≡◌, ℕ, ◌≤◌, Bool, true, false, cond, List, [], ◌∷◌, ◌++◌, length, take, drop, map, flat_map, arith, refl, sym, ◌∙◌, ap, append-nil}
use Rattle.std.specs.List.{filter, All}
use Rattle.std.proofs.lemmas.List.{take_all, take_at, drop_at}
use Rattle.bits.specs.Bits.{words_bits}
use Rattle.page_text.specs.Page.{Page, IsAcceptable}
use Rattle.scheduler.specs.Slots.{PlanPiece, in_frame, IsSchedule}
use Rattle.scheduler.proofs.Unique.{same_pieces, at_most_one}
use Rattle.air.specs.Air.{transmission}
use Rattle.receiver.specs.Stretches.{first_stretches, stretches}
use Rattle.receiver.specs.Slots.{stretch_slots}
use Rattle.receiver.specs.Heard.{HeardPage, with_text, pages_from}
use Rattle.near.specs.NearAir.{AreUsable}
use Rattle.near.proofs.NearPages.{batches_in, codewords-slots, filter_inner, kept_runs, said_pages}
use Rattle.near.proofs.NearWords.{length-heard}
use Rattle.repeats.specs.Twin.{held_slots, twin, twins, says, twin_pages, heard_twice}
use Rattle.repeats.specs.Kept.{Copies, clean, clean_runs, marked, SlotsAreHeld, KeptFrames, OneKept}
use Rattle.repeats.proofs.TwoStretches.{two_stretches}
use Rattle.repeats.proofs.Twins.{twin_says}
use Rattle.repeats.proofs.Marked.{pick, marked_in_frame, runs_in_frame}

swap_step : (p q : Page → Bool) (x : Page) (ps qs ws : List Page) → (a b : Bool) → p x ≡ a → q x ≡ b → filter p qs ≡ ws → filter q ps ≡ ws
    → filter p (cond b (x ∷ qs) qs) ≡ filter q (cond a (x ∷ ps) ps)
swap_step p q x ps qs ws true true e f g h =
    ap (λ (t : Bool). cond t (x ∷ filter p qs) (filter p qs)) e ∙ ap (λ (ys : List Page). x ∷ ys) (g ∙ sym h)
    ∙ sym (ap (λ (t : Bool). cond t (x ∷ filter q ps) (filter q ps)) f)
swap_step p q x ps qs ws true false e f g h = g ∙ sym h ∙ sym (ap (λ (t : Bool). cond t (x ∷ filter q ps) (filter q ps)) f)
swap_step p q x ps qs ws false true e f g h = ap (λ (t : Bool). cond t (x ∷ filter p qs) (filter p qs)) e ∙ g ∙ sym h
swap_step p q x ps qs ws false false e f g h = g ∙ sym h

filter_swap : (p q : Page → Bool) (xs : List Page) → filter p (filter q xs) ≡ filter q (filter p xs)
filter_swap p q [] = refl
filter_swap p q (x ∷ xs) = swap_step p q x (filter p xs) (filter q xs) (filter q (filter p xs)) (p x) (q x) refl refl (filter_swap p q xs) refl

-- the clean runs of a schedule, in accepted order
pub kept_in_order : (accepted : List Page) (slots : List ℕ) (test : ℕ → Bool) (s : IsSchedule accepted slots) (f : ℕ)
    → filter (in_frame f) (kept_runs test 0 s.pieces) ≡ filter (in_frame f) (marked (λ g. clean_runs test g 0 s.pieces) accepted)
kept_in_order accepted slots test s f =
    runs_in_frame f test 0 s.pieces ∙ ap (pick (clean_runs test f 0 s.pieces)) (s.layout.fair f)
    ∙ sym (marked_in_frame f (λ g. clean_runs test g 0 s.pieces) accepted)

-- ---- one twin stretch

-- what is heard of two stretches
two_heard : (listens : ℕ → Bool) (bits : List Bool) (one other : List ℕ) → stretches bits ≡ one ∷ other ∷ [] → length (stretch_slots one) ≤ held_slots
    → heard_twice listens bits ≡ pages_from listens 0 (map says (twin (stretch_slots one) (stretch_slots other)))
unfolding twins
two_heard listens bits one other e l =
    ap (λ (found : List (List ℕ)). flat_map (twin_pages listens) (twins found)) e
    ∙ append-nil (twin_pages listens (twin (take held_slots (stretch_slots one)) (stretch_slots other)))
    ∙ ap (λ (xs : List ℕ). twin_pages listens (twin xs (stretch_slots other))) (take_all held_slots (stretch_slots one) l)

-- the places that are clean in a copy
abbrev clean_in : {accepted : List Page} {heard : List Bool} → Copies accepted heard → ℕ → Bool
clean_in near = clean (words_bits (transmission near.slots)) near.first near.second

copies_heard : (listens : ℕ → Bool) (accepted : List Page) (heard : List Bool) → AreUsable listens → All IsAcceptable accepted → SlotsAreHeld accepted
    → (near : Copies accepted heard)
    → map with_text (heard_twice listens heard) ≡ filter (λ page. listens page.capcode) (kept_runs (clean_in near) 0 near.schedule.pieces)
copies_heard listens accepted heard u h few near =
    let b = batches_in accepted near.slots near.schedule in
    let t = two_stretches b.0 near.slots near.first near.second b.1 near.near_first near.near_second in
    let lt = length-heard _ 0 near.slots (stretch_slots t.one) t.heard_one in
    let lf = few near.slots near.schedule in
    ap (map with_text)
    (two_heard listens heard t.one t.other (ap stretches near.whole ∙ t.all) (omega (arith, lt, lf))
    ∙ ap (pages_from listens 0) (twin_says _ _ 0 near.slots (stretch_slots t.one) (stretch_slots t.other) t.heard_one t.heard_other
    (codewords-slots accepted near.slots h near.schedule)))
    ∙ said_pages listens (clean_in near) accepted near.slots u h near.schedule

-- in a frame, and set capcodes that are listened to
copies_frames : (listens set : ℕ → Bool) (accepted : List Page) (heard : List Bool) → AreUsable listens → All IsAcceptable accepted → SlotsAreHeld accepted
    → (near : Copies accepted heard) → ((capcode : ℕ) → set capcode ≡ true → listens capcode ≡ true) → (f : ℕ)
    → filter (in_frame f) (filter (λ page. set page.capcode) (map with_text (heard_twice listens heard)))
    ≡ filter (in_frame f) (filter (λ page. set page.capcode) (marked (λ g. clean_runs (clean_in near) g 0 near.schedule.pieces) accepted))
copies_frames listens set accepted heard u h few near a f =
    let runs = kept_runs (clean_in near) 0 near.schedule.pieces in
    ap (λ (xs : List Page). filter (in_frame f) (filter (λ page. set page.capcode) xs)) (copies_heard listens accepted heard u h few near)
    ∙ ap (filter (in_frame f)) (filter_inner (λ page. set page.capcode) (λ page. listens page.capcode) runs (λ x t. a x.capcode t))
    ∙ filter_swap (in_frame f) (λ page. set page.capcode) runs
    ∙ ap (filter (λ page. set page.capcode)) (kept_in_order accepted near.slots (clean_in near) near.schedule f)
    ∙ filter_swap (λ page. set page.capcode) (in_frame f) (marked (λ g. clean_runs (clean_in near) g 0 near.schedule.pieces) accepted)

stretches-nothing : stretches [] ≡ []
unfolding stretches first_stretches
stretches-nothing = refl

nothing_heard : (listens : ℕ → Bool) → heard_twice listens [] ≡ []
unfolding twins
nothing_heard listens = ap (λ (found : List (List ℕ)). flat_map (twin_pages listens) (twins found)) stretches-nothing

pub kept_frames : KeptFrames
kept_frames listens [] heard u h few near set f a =
    ap (λ (xs : List HeardPage). filter (in_frame f) (filter (λ page. set page.capcode) (map with_text xs))) (ap (heard_twice listens) near ∙ nothing_heard listens)
kept_frames listens (page ∷ more) heard u h few near set f a = copies_frames listens set (page ∷ more) heard u h few near a f

-- ---- what is kept is determined

same_parts : (a b c d : List Bool) → a ++ b ≡ c ++ d → length a ≡ length c → (a ≡ c) × (b ≡ d)
same_parts a b c d e l =
    let n : length a ≡ length c = l in (
      sym (take_at a b (length c) n) ∙ ap (take (length c)) e ∙ take_at c d (length c) refl,
      sym (drop_at a b (length c) n) ∙ ap (drop (length c)) e ∙ drop_at c d (length c) refl,
    )

-- the clean runs for these words, copies and pieces
abbrev runs_for : List Page → List ℕ → List Bool → List Bool → List PlanPiece → List Page
runs_for accepted slots first second pieces = marked (λ f. clean_runs (clean (words_bits (transmission slots)) first second) f 0 pieces) accepted

runs_same : (accepted : List Page) (s1 s2 : List ℕ) (a1 a2 b1 b2 : List Bool) (p1 p2 : List PlanPiece) → s1 ≡ s2 → a1 ≡ a2 → b1 ≡ b2 → p1 ≡ p2
    → runs_for accepted s1 a1 b1 p1 ≡ runs_for accepted s2 a2 b2 p2
runs_same accepted s1 s2 a1 a2 b1 b2 p1 p2 s a b p =
    ap (λ (x : List ℕ). runs_for accepted x a1 b1 p1) s ∙ ap (λ (x : List Bool). runs_for accepted s2 x b1 p1) a
    ∙ ap (λ (x : List Bool). runs_for accepted s2 a2 x p1) b ∙ ap (runs_for accepted s2 a2 b2) p

copies_same : (accepted : List Page) (heard : List Bool) (near other : Copies accepted heard)
    → runs_for accepted near.slots near.first near.second near.schedule.pieces ≡ runs_for accepted other.slots other.first other.second other.schedule.pieces
copies_same accepted heard near other =
    let p : near.schedule.pieces ≡ other.schedule.pieces =
    same_pieces accepted [] near.schedule.pieces other.schedule.pieces near.schedule.layout other.schedule.layout in
    let s : near.slots ≡ other.slots = at_most_one accepted near.slots other.slots near.schedule other.schedule in
    let l : length near.first ≡ length other.first =
    near.near_first.whole ∙ ap (λ (x : List ℕ). length (words_bits (transmission x))) s ∙ sym other.near_first.whole in
    let e = same_parts near.first near.second other.first other.second (sym near.whole ∙ other.whole) l in
    runs_same accepted near.slots other.slots near.first other.first near.second other.second near.schedule.pieces other.schedule.pieces s e.0 e.1 p

-- the kept pages hang on the accepted pages and on what is heard alone
pub kept_same : OneKept
kept_same [] heard near other = refl
kept_same (page ∷ pages) heard near other = copies_same (page ∷ pages) heard near other
