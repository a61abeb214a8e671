-- The pieces that meet the four conditions are determined by the accepted pages.
use Rattle.std.proofs.Common.{◌≡◌, ℕ, ◌+◌, ◌*◌, List, [], ◌∷◌, ◌++◌, refl, sym, ◌∙◌, ap, subst, append_assoc}
use Rattle.std.specs.List.{filter}
use Rattle.std.proofs.lemmas.List.{append_cancel_left, append-nil}
use Rattle.std.proofs.lemmas.List.Elements.{filter-append}
use Rattle.page_text.specs.Page.{Page}
use Rattle.codeword.specs.Capcodes.{frame_at}
use Rattle.scheduler.specs.Slots.{PlanPiece, Idle, Run, frame, in_frame, words, pages_in_order, place, IsLayout, IsSchedule}
use Rattle.scheduler.proofs.Frames.{filter-own, none_left}
use Rattle.scheduler.proofs.Pieces.{pages-append, place-append}

-- a piece moves from the front of the rest to the end of what was read
pub shift : (front : List PlanPiece) (x : PlanPiece) (r : List PlanPiece) → front ++ x ∷ r ≡ (front ++ x ∷ []) ++ r
shift front x r = sym (append_assoc front (x ∷ []) r)

-- what two layouts with one beginning have left is fair to each other
pub fair_rest : (accepted : List Page) (front r s : List PlanPiece) → IsLayout accepted (front ++ r) → IsLayout accepted (front ++ s)
    → (f : ℕ)
    → filter (in_frame f) (pages_in_order r) ≡ filter (in_frame f) (pages_in_order s)
fair_rest accepted front r s l m f =
    append_cancel_left (filter (in_frame f) (pages_in_order front)) _ _
    (sym (filter-append (in_frame f) (pages_in_order front) (pages_in_order r))
    ∙ ap (filter (in_frame f)) (sym (pages-append front r))
    ∙ l.fair f ∙ sym (m.fair f)
    ∙ ap (filter (in_frame f)) (pages-append front s)
    ∙ filter-append (in_frame f) (pages_in_order front) (pages_in_order s))

-- the one that ends first has ended
pub ended : (accepted : List Page) (front s : List PlanPiece) → IsLayout accepted (front ++ []) → IsLayout accepted (front ++ s)
    → s ≡ []
ended accepted front s l m =
    let none : pages_in_order s ≡ [] = none_left (pages_in_order s) (λ f. sym (fair_rest accepted front [] s l m f)) in
    let before : List PlanPiece = l.idle_last.0 in
    let is : front ≡ before ++ Idle ∷ [] = sym (append-nil front) ∙ l.idle_last.1 in
    let long : place (front ++ []) ≡ 16 * l.batches.0 = l.batches.1 in
    let split : front ++ s ≡ before ++ Idle ∷ s = ap (λ x. x ++ s) is ∙ append_assoc before (Idle ∷ []) s in
    let at : place before + 1 ≡ 16 * l.batches.0 = sym (place-append before (Idle ∷ [])) ∙ ap place (sym l.idle_last.1) ∙ long in
    m.no_sooner before s l.batches.0 split at none

-- an idle word and a run can't stand at one place
pub not_both : (accepted : List Page) (front : List PlanPiece) (page : Page) (r s : List PlanPiece) → IsLayout accepted (front ++ Idle ∷ r)
    → IsLayout accepted (front ++ Run page ∷ s) → ⊥
not_both accepted front page r s l m =
    let none : filter (in_frame (frame_at (place front))) (pages_in_order r) ≡ [] = l.prompt front r refl in
    let at : frame_at (place front) ≡ frame page = m.whole front page s refl in
    let fair = fair_rest accepted front (Idle ∷ r) (Run page ∷ s) l m (frame page) in
    let own = filter-own page (pages_in_order s) in
    let none' : filter (in_frame (frame page)) (pages_in_order r) ≡ [] = rw at at none in
    cc

-- two runs at one place are of one page
pub same_page : (accepted : List Page) (front : List PlanPiece) (page other : Page) (r s : List PlanPiece)
    → IsLayout accepted (front ++ Run page ∷ r) → IsLayout accepted (front ++ Run other ∷ s) → page ≡ other
same_page accepted front page other r s l m =
    let e : frame page ≡ frame other = sym (l.whole front page r refl) ∙ m.whole front other s refl in
    let fair = fair_rest accepted front (Run page ∷ r) (Run other ∷ s) l m (frame page) in
    let own = filter-own page (pages_in_order r) in
    let own' : filter (in_frame (frame page)) (other ∷ pages_in_order s) ≡ other ∷ filter (in_frame (frame page)) (pages_in_order s) = let P : ℕ
    → Type 0 = λ f. filter (in_frame f) (other ∷ pages_in_order s) ≡ other ∷ filter (in_frame f) (pages_in_order s) in
    subst P (sym e) (filter-own other (pages_in_order s)) in
    cc

-- two layouts with one beginning go on in the same way
pub same_pieces : (accepted : List Page) (front r s : List PlanPiece) → IsLayout accepted (front ++ r) → IsLayout accepted (front ++ s)
    → r ≡ s
same_pieces accepted front [] s l m = sym (ended accepted front s l m)
same_pieces accepted front (x ∷ r) [] l m = ended accepted front (x ∷ r) m l
same_pieces accepted front (Idle ∷ r) (Idle ∷ s) l m =
    ap (λ k. Idle ∷ k)
    (same_pieces accepted (front ++ Idle ∷ []) r s (subst (IsLayout accepted) (shift front Idle r) l)
    (subst (IsLayout accepted) (shift front Idle s) m))
same_pieces accepted front (Idle ∷ r) (Run page ∷ s) l m = absurd (not_both accepted front page r s l m)
same_pieces accepted front (Run page ∷ r) (Idle ∷ s) l m = absurd (not_both accepted front page s r m l)
same_pieces accepted front (Run page ∷ r) (Run other ∷ s) l m =
    let e : page ≡ other = same_page accepted front page other r s l m in
    let m' : IsLayout accepted (front ++ Run page ∷ s) = subst (λ p. IsLayout accepted (front ++ Run p ∷ s)) (sym e) m in
    let k : r ≡ s = same_pieces accepted (front ++ Run page ∷ []) r s (subst (IsLayout accepted) (shift front (Run page) r) l)
    (subst (IsLayout accepted) (shift front (Run page) s) m') in
    cc

-- the words that meet the four conditions are determined
pub at_most_one : (accepted : List Page) (s other : List ℕ) → IsSchedule accepted s → IsSchedule accepted other → s ≡ other
at_most_one accepted s other x y = x.slots_are ∙ ap words (same_pieces accepted [] x.pieces y.pieces x.layout y.layout)
    ∙ sym y.slots_are
