-- The pieces from a place on, each chosen as the place demands, meet the four conditions.
use Rattle.std.proofs.Common.{◌≡◌, ◌≢◌, ℕ, suc, ◌+◌, ◌*◌, ◌/◌, ◌%◌, Bool, true, false, List, [], ◌∷◌, ◌++◌, length, refl, sym, ◌∙◌, ap, arith, eq-eqb, ◌⊎◌, inl, inr, add-zero, zero-add}
use Rattle.std.specs.List.{filter}
use Rattle.std.specs.List.Sorted.{IsPermutation}
use Rattle.std.proofs.lemmas.List.Sorted.{IsPermutation-refl, IsPermutation-trans, IsPermutation-cons}
use Rattle.page_text.specs.Page.{Page}
use Rattle.codeword.specs.Capcodes.{frame_at}
use Rattle.scheduler.specs.Slots.{PlanPiece, Idle, Run, run, frame, in_frame, pages_in_order, place, IsLayout}
use Rattle.scheduler.specs.Plan.{is_done, without_first}
use Rattle.scheduler.proofs.Frames.{true_or_false, filter-yes, filter-no, none_left, first_in_frame, filter-without_first, IsPermutation-without_first}
use Rattle.scheduler.proofs.Pieces.{place-run}

-- These are the pieces from a place on, while these pages wait. The flag says whether the place before is idle.
pub data Lays : ℕ → List Page → Bool → List PlanPiece → Type 0 where
  stop : {start : ℕ} → start % 16 ≡ 0 → Lays start [] true []
  wait : {start : ℕ} {waiting : List Page} {idle : Bool} {pieces : List PlanPiece} → filter (in_frame (frame_at start)) waiting ≡ []
      → is_done start waiting idle ≡ false
      → Lays (start + 1) waiting true pieces → Lays start waiting idle (Idle ∷ pieces)
  send : {start : ℕ} {waiting : List Page} {idle : Bool} {pieces : List PlanPiece} (page : Page) (more : List Page)
      → filter (in_frame (frame_at start)) waiting ≡ page ∷ more
      → Lays (start + length (run page)) (without_first (frame_at start) waiting) false pieces
      → Lays start waiting idle (Run page ∷ pieces)

-- Whole: there is one run for each page
pub lays_once : (start : ℕ) (waiting : List Page) (idle : Bool) (pieces : List PlanPiece) → Lays start waiting idle pieces
    → IsPermutation waiting (pages_in_order pieces)
lays_once start waiting idle pieces (stop h) = IsPermutation-refl []
lays_once start waiting idle pieces (wait none not r) = lays_once _ _ _ _ r
lays_once start waiting idle pieces (send sent more first r) =
    IsPermutation-trans _ _ _ (IsPermutation-without_first (frame_at start) waiting sent more first)
    (IsPermutation-cons sent _ _ (lays_once _ _ _ _ r))

-- Whole: each run starts in its page's frame
pub lays_whole : (start : ℕ) (waiting : List Page) (idle : Bool) (pieces : List PlanPiece) → Lays start waiting idle pieces
    → (before : List PlanPiece) (page : Page) (after : List PlanPiece) → pieces ≡ before ++ Run page ∷ after
    → frame_at (start + place before) ≡ frame page
lays_whole start waiting idle pieces (stop h) [] page after e = cc
lays_whole start waiting idle pieces (stop h) (x ∷ front) page after e = cc
lays_whole start waiting idle pieces (wait {pieces = rest} none not r) [] page after e = cc
lays_whole start waiting idle pieces (wait {pieces = rest} none not r) (Idle ∷ front) page after e =
    let e' : rest ≡ front ++ Run page ∷ after = cc in
    let at : start + 1 + place front ≡ start + suc (place front) = omega arith in
    ap frame_at (sym at) ∙ lays_whole (start + 1) waiting true rest r front page after e'
lays_whole start waiting idle pieces (wait {pieces = rest} none not r) (Run other ∷ front) page after e = cc
lays_whole start waiting idle pieces (send {pieces = rest} sent more first r) [] page after e =
    let s' : sent ≡ page = cc in ap frame_at (add-zero start) ∙ sym (first_in_frame _ waiting sent more first) ∙ ap frame s'
lays_whole start waiting idle pieces (send {pieces = rest} sent more first r) (Idle ∷ front) page after e = cc
lays_whole start waiting idle pieces (send {pieces = rest} sent more first r) (Run other ∷ front) page after e =
    let e' : rest ≡ front ++ Run page ∷ after = cc in
    let s' : sent ≡ other = cc in
    let i : length (run sent) ≡ length (run other) = ap (λ x. length (run x)) s' in
    let at : start + length (run sent) + place front ≡ start + place (Run other ∷ front) = omega (arith, place-run other front, i) in
    ap frame_at (sym at) ∙ lays_whole (start + length (run sent)) _ false rest r front page after e'

-- Fair: each frame's pages run in the order in which they waited
pub lays_fair : (start : ℕ) (waiting : List Page) (idle : Bool) (pieces : List PlanPiece) → Lays start waiting idle pieces
    → (f : ℕ) → filter (in_frame f) (pages_in_order pieces) ≡ filter (in_frame f) waiting
lays_fair start waiting idle pieces (stop h) f = refl
lays_fair start waiting idle pieces (wait none not r) f = lays_fair _ _ _ _ r f
lays_fair start waiting idle pieces (send {pieces = rest} sent more first r) f =
    let ih = lays_fair _ _ _ _ r f in
    let e = filter-without_first f (frame_at start) waiting sent more first in
    same_head f sent (pages_in_order rest) (without_first (frame_at start) waiting) ih ∙ sym e
  where
    same_head : (f : ℕ) (sent : Page) (rest waiting : List Page) → filter (in_frame f) rest ≡ filter (in_frame f) waiting
        → filter (in_frame f) (sent ∷ rest) ≡ filter (in_frame f) (sent ∷ waiting)
    same_head f sent rest waiting h = elim (true_or_false (in_frame f sent)) [
      | inl a ↦ filter-yes (in_frame f) sent rest a ∙ ap (λ pieces. sent ∷ pieces) h ∙ sym (filter-yes (in_frame f) sent waiting a)
      | inr a ↦ filter-no (in_frame f) sent rest a ∙ h ∙ sym (filter-no (in_frame f) sent waiting a)
    ]

-- no page waits where none runs any more
pub lays_none : (start : ℕ) (waiting : List Page) (idle : Bool) (pieces : List PlanPiece) → Lays start waiting idle pieces
    → pages_in_order pieces ≡ [] → waiting ≡ []
lays_none start waiting idle pieces r h =
    none_left waiting (λ f. sym (lays_fair start waiting idle pieces r f) ∙ ap (filter (in_frame f)) h)

-- Prompt: no page of a frame waits at an idle place of it
pub lays_prompt : (start : ℕ) (waiting : List Page) (idle : Bool) (pieces : List PlanPiece) → Lays start waiting idle pieces
    → (before after : List PlanPiece) → pieces ≡ before ++ Idle ∷ after
    → filter (in_frame (frame_at (start + place before))) (pages_in_order after) ≡ []
lays_prompt start waiting idle pieces (stop h) [] after e = cc
lays_prompt start waiting idle pieces (stop h) (x ∷ front) after e = cc
lays_prompt start waiting idle pieces (wait {pieces = rest} none not r) [] after e =
    let sent : rest ≡ after = cc in
    let z : start + 0 ≡ start = add-zero start in
    let a = lays_fair _ _ _ _ r (frame_at start) in
    ap (λ n. filter (in_frame (frame_at n)) (pages_in_order after)) z ∙ ap (λ x. filter (in_frame (frame_at start)) (pages_in_order x)) (sym sent) ∙ a
    ∙ none
lays_prompt start waiting idle pieces (wait {pieces = rest} none not r) (Idle ∷ front) after e =
    let e' : rest ≡ front ++ Idle ∷ after = cc in
    let at : start + 1 + place front ≡ start + suc (place front) = omega arith in
    ap (λ n. filter (in_frame (frame_at n)) (pages_in_order after)) (sym at) ∙ lays_prompt (start + 1) waiting true rest r front after e'
lays_prompt start waiting idle pieces (wait {pieces = rest} none not r) (Run other ∷ front) after e = cc
lays_prompt start waiting idle pieces (send {pieces = rest} sent more first r) [] after e = cc
lays_prompt start waiting idle pieces (send {pieces = rest} sent more first r) (Idle ∷ front) after e = cc
lays_prompt start waiting idle pieces (send {pieces = rest} sent more first r) (Run other ∷ front) after e =
    let e' : rest ≡ front ++ Idle ∷ after = cc in
    let s' : sent ≡ other = cc in
    let i : length (run sent) ≡ length (run other) = ap (λ x. length (run x)) s' in
    let at : start + length (run sent) + place front ≡ start + place (Run other ∷ front) = omega (arith, place-run other front, i) in
    ap (λ n. filter (in_frame (frame_at n)) (pages_in_order after)) (sym at)
    ∙ lays_prompt (start + length (run sent)) _ false rest r front after e'

-- End: whole batches
pub lays_batches : (start : ℕ) (waiting : List Page) (idle : Bool) (pieces : List PlanPiece) → Lays start waiting idle pieces
    → (start + place pieces) % 16 ≡ 0
lays_batches start waiting idle pieces (stop h) = ap (λ n. n % 16) (add-zero start) ∙ h
lays_batches start waiting idle pieces (wait {pieces = rest} none not r) =
    let at : start + 1 + place rest ≡ start + suc (place rest) = omega arith in ap (λ n. n % 16) (sym at) ∙ lays_batches _ _ _ _ r
lays_batches start waiting idle pieces (send {pieces = rest} sent more first r) =
    let at : start + length (run sent) + place rest ≡ start + place (Run sent ∷ rest) = omega (arith, place-run sent rest) in
    ap (λ n. n % 16) (sym at) ∙ lays_batches _ _ _ _ r

-- End: the last place is idle
pub lays_last : (start : ℕ) (waiting : List Page) (idle : Bool) (pieces : List PlanPiece) → Lays start waiting idle pieces
    → ((pieces ≡ []) × (idle ≡ true)) ⊎ ((before : List PlanPiece) × pieces ≡ before ++ Idle ∷ [])
lays_last start waiting idle pieces (stop h) = inl (refl, refl)
lays_last start waiting idle pieces (wait {pieces = rest} none not r) =
    elim (lays_last _ _ _ _ r) [ inl h ↦ inr ([], ap (λ x. Idle ∷ x) h.0) | inr h ↦ inr (Idle ∷ h.0, ap (λ x. Idle ∷ x) h.1) ]
lays_last start waiting idle pieces (send {pieces = rest} sent more first r) =
    elim (lays_last _ _ _ _ r) [
      | inl h ↦ let f : false ≡ true = h.1 in cc
      | inr h ↦ inr (Run sent ∷ h.0, ap (λ x. Run sent ∷ x) h.1)
    ]

-- nothing follows at the end
pub at_end : (start : ℕ) (waiting : List Page) (idle : Bool) (pieces : List PlanPiece) → Lays start waiting idle pieces → waiting ≡ []
    → idle ≡ true → start % 16 ≡ 0 → pieces ≡ []
at_end start waiting idle pieces (stop h) e i z = refl
at_end start waiting idle pieces (wait {pieces = rest} none not r) e i z =
    let d : is_done start waiting idle ≡ true = rw (e, i) (eq-eqb (start % 16) 0 z) in cc
at_end start waiting idle pieces (send {pieces = rest} sent more first r) e i z =
    let n : filter (in_frame (frame_at start)) waiting ≡ [] = ap (filter (in_frame (frame_at start))) e in cc

-- End: no smaller number of batches would do
pub lays_no_sooner : (start : ℕ) (waiting : List Page) (idle : Bool) (pieces : List PlanPiece) → Lays start waiting idle pieces
    → (before after : List PlanPiece) → pieces ≡ before ++ Idle ∷ after → (start + (place before + 1)) % 16 ≡ 0
    → pages_in_order after ≡ [] → after ≡ []
lays_no_sooner start waiting idle pieces (stop h) [] after e m n = cc
lays_no_sooner start waiting idle pieces (stop h) (x ∷ front) after e m n = cc
lays_no_sooner start waiting idle pieces (wait {pieces = rest} none not r) [] after e m n =
    let sent : rest ≡ after = cc in
    let n' : pages_in_order rest ≡ [] = ap pages_in_order sent ∙ n in
    sym sent ∙ at_end _ _ _ _ r (lays_none _ _ _ _ r n') refl m
lays_no_sooner start waiting idle pieces (wait {pieces = rest} none not r) (Idle ∷ front) after e m n =
    let e' : rest ≡ front ++ Idle ∷ after = cc in
    let at : start + 1 + (place front + 1) ≡ start + (suc (place front) + 1) = omega arith in
    lays_no_sooner (start + 1) waiting true rest r front after e' (ap (λ x. x % 16) at ∙ m) n
lays_no_sooner start waiting idle pieces (wait {pieces = rest} none not r) (Run other ∷ front) after e m n = cc
lays_no_sooner start waiting idle pieces (send {pieces = rest} sent more first r) [] after e m n = cc
lays_no_sooner start waiting idle pieces (send {pieces = rest} sent more first r) (Idle ∷ front) after e m n = cc
lays_no_sooner start waiting idle pieces (send {pieces = rest} sent more first r) (Run other ∷ front) after e m n =
    let e' : rest ≡ front ++ Idle ∷ after = cc in
    let s' : sent ≡ other = cc in
    let i : length (run sent) ≡ length (run other) = ap (λ x. length (run x)) s' in
    let at : start + length (run sent) + (place front + 1) ≡ start + (place (Run other ∷ front) + 1) =
    omega (arith, place-run other front, i) in
    lays_no_sooner (start + length (run sent)) _ false rest r front after e' (ap (λ x. x % 16) at ∙ m) n

-- what is laid from place 0 on meets the four conditions
pub lays_layout : (waiting : List Page) (pieces : List PlanPiece) → waiting ≢ [] → Lays 0 waiting true pieces → IsLayout waiting pieces
lays_layout waiting pieces ne r = record {
  once = lays_once 0 waiting true pieces r;
  whole = λ front page a e. ap frame_at (sym (zero-add (place front))) ∙ lays_whole 0 waiting true pieces r front page a e;
  fair = lays_fair 0 waiting true pieces r;
  prompt = λ front a e. ap (λ n. filter (in_frame (frame_at n)) (pages_in_order a)) (sym (zero-add (place front)))
      ∙ lays_prompt 0 waiting true pieces r front a e;
  batches = let z : (0 + place pieces) % 16 ≡ 0 = lays_batches 0 waiting true pieces r in (place pieces / 16, omega (arith, z));
  idle_last = elim (lays_last 0 waiting true pieces r) [
    | inl h ↦ absurd (ne (nil_from (lays_fair 0 waiting true pieces r) h.0))
    | inr h ↦ h
  ];
  no_sooner = λ front a n e m z. lays_no_sooner 0 waiting true pieces r front a e (whole_batch (place front) n m) z;
}
  where
    nil_from : {pieces : List PlanPiece} → ((f : ℕ) → filter (in_frame f) (pages_in_order pieces) ≡ filter (in_frame f) waiting)
        → pieces ≡ [] → waiting ≡ []
    nil_from {pieces} fair e = none_left waiting (λ f. sym (fair f) ∙ ap (λ x. filter (in_frame f) (pages_in_order x)) e)

    whole_batch : (x n : ℕ) → x + 1 ≡ 16 * n → (0 + (x + 1)) % 16 ≡ 0
    whole_batch x n e = omega (arith, e)
