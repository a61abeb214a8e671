-- The slots from a place on, one piece at a time.
use Rattle.std.proofs.Common.{◌≡◌, ◌≢◌, ℕ, ◌+◌, ◌/◌, ◌%◌, Bool, true, false, List, [], ◌∷◌, ◌++◌, length, eqb, refl, sym, ◌∙◌, ap, subst, arith, eq-eqb, eqb-true, ◌⊎◌, inl, inr}
use Rattle.std.specs.List.{filter}
use Rattle.page_text.specs.Page.{Page}
use Rattle.codeword.specs.Capcodes.{frame_at}
use Rattle.scheduler.specs.Slots.{PlanPiece, Idle, Run, run, frame, in_frame, IsLayout}
use Rattle.scheduler.specs.Plan.{is_done, without_first, room, pieces_from, still}
use Rattle.scheduler.specs.Said.{run_slots, slots_of_pieces}
use Rattle.scheduler.proofs.Lays.{Lays, stop, wait, send, at_end, lays_layout}
use Rattle.scheduler.proofs.Room.{some_pieces-lays}

-- what is chosen depends on the place in the batch alone
pub lays_same : (p r : ℕ) (waiting : List Page) (idle : Bool) (xs ys : List PlanPiece) → p % 16 ≡ r % 16 → Lays p waiting idle xs
    → Lays r waiting idle ys → xs ≡ ys
lays_same p r waiting idle xs ys e (stop z) y = sym (at_end r waiting idle ys y refl refl (sym e ∙ z))
lays_same p r waiting idle xs ys e (wait {pieces = rest} none not x) (stop z) =
    let d : eqb (p % 16) 0 ≡ true = eq-eqb (p % 16) 0 (e ∙ z) in let n : eqb (p % 16) 0 ≡ false = not in cc
lays_same p r waiting idle xs ys e (wait {pieces = rest} none not x) (wait {pieces = others} n d y) =
    let m : (p + 1) % 16 ≡ (r + 1) % 16 = omega arith in
    ap (λ pieces. Idle ∷ pieces) (lays_same (p + 1) (r + 1) waiting true rest others m x y)
lays_same p r waiting idle xs ys e (wait {pieces = rest} none not x) (send {pieces = others} page more first y) =
    let at : frame_at p ≡ frame_at r = ap (λ n. n / 2) e in
    let g : filter (in_frame (frame_at p)) waiting ≡ page ∷ more = ap (λ f. filter (in_frame f) waiting) at ∙ first in
    cc
lays_same p r waiting idle xs ys e (send {pieces = rest} page more first x) (stop z) = cc
lays_same p r waiting idle xs ys e (send {pieces = rest} page more first x) (wait {pieces = others} n d y) =
    let at : frame_at p ≡ frame_at r = ap (λ n. n / 2) e in
    let g : filter (in_frame (frame_at r)) waiting ≡ page ∷ more = ap (λ f. filter (in_frame f) waiting) (sym at) ∙ first in
    cc
lays_same p r waiting idle xs ys e (send {pieces = rest} page more first x) (send {pieces = others} page' more' first' y) =
    let at : frame_at p ≡ frame_at r = ap (λ n. n / 2) e in
    let g : filter (in_frame (frame_at p)) waiting ≡ page' ∷ more' = ap (λ f. filter (in_frame f) waiting) at ∙ first' in
    let s : page ≡ page' = cc in
    let n : (p + length (run page)) % 16 ≡ (r + length (run page)) % 16 = omega arith in
    let y' : Lays (r + length (run page)) (without_first (frame_at p) waiting) false others =
    subst (λ a. Lays (r + length (run a)) (without_first (frame_at p) waiting) false others) (sym s)
    (subst (λ f. Lays (r + length (run page')) (without_first f waiting) false others) (sym at) y) in
    let t : rest ≡ others =
    lays_same (p + length (run page)) (r + length (run page)) (without_first (frame_at p) waiting) false rest others n x y' in
    ap (λ a. Run a ∷ rest) s ∙ ap (λ pieces. Run page' ∷ pieces) t

-- the pieces from a place on are chosen as the place demands
pub pieces_from-lays : (p : ℕ) (waiting : List Page) (idle : Bool) → Lays p waiting idle (pieces_from p waiting idle)
unfolding pieces_from
pieces_from-lays p waiting idle = some_pieces-lays (room p waiting idle) p waiting idle (omega arith)

-- they are all that can be chosen
pub pieces_from-is : (p : ℕ) (waiting : List Page) (idle : Bool) (pieces : List PlanPiece) → Lays p waiting idle pieces
    → pieces_from p waiting idle ≡ pieces
pieces_from-is p waiting idle pieces x = lays_same p p waiting idle _ pieces refl (pieces_from-lays p waiting idle) x

-- they depend on the place in the batch alone
pub pieces_from-mod : (p r : ℕ) (waiting : List Page) (idle : Bool) → p % 16 ≡ r % 16
    → pieces_from p waiting idle ≡ pieces_from r waiting idle
pieces_from-mod p r waiting idle e =
    lays_same p r waiting idle _ _ e (pieces_from-lays p waiting idle) (pieces_from-lays r waiting idle)

-- none are left at the end
pub pieces_from-done : (p : ℕ) (waiting : List Page) (idle : Bool) → is_done p waiting idle ≡ true → pieces_from p waiting idle ≡ []
pieces_from-done p [] true d = pieces_from-is p [] true [] (stop (eqb-true (p % 16) 0 d))
pieces_from-done p [] false d = cc
pieces_from-done p (page ∷ waiting) idle d = cc

-- an idle piece, and those behind it
pub pieces_from-wait : (p r : ℕ) (waiting : List Page) (idle : Bool) → filter (in_frame (frame_at p)) waiting ≡ []
    → is_done p waiting idle ≡ false → r % 16 ≡ (p + 1) % 16 → pieces_from p waiting idle ≡ Idle ∷ pieces_from r waiting true
pieces_from-wait p r waiting idle n d e =
    pieces_from-is p waiting idle _ (wait n d (pieces_from-lays (p + 1) waiting true))
    ∙ ap (λ pieces. Idle ∷ pieces) (pieces_from-mod (p + 1) r waiting true (sym e))

-- a run, and the pieces behind it
pub pieces_from-send : (p r : ℕ) (waiting : List Page) (idle : Bool) (page : Page) (more : List Page)
    → filter (in_frame (frame_at p)) waiting ≡ page ∷ more → r % 16 ≡ (p + length (run page)) % 16
    → pieces_from p waiting idle ≡ Run page ∷ pieces_from r (without_first (frame_at p) waiting) false
pieces_from-send p r waiting idle page more first e =
    let n : ℕ = p + length (run page) in
    let behind : List Page = without_first (frame_at p) waiting in
    pieces_from-is p waiting idle _ (send page more first (pieces_from-lays n behind false))
    ∙ ap (λ pieces. Run page ∷ pieces) (pieces_from-mod n r behind false (sym e))

-- the run of a page has a slot
starts : (page : Page) (rest : List PlanPiece) → slots_of_pieces (Run page ∷ rest) ≢ []
unfolding run_slots
starts page rest h = cc

-- before the end a slot is left
pub slots_from-more : (p : ℕ) (waiting : List Page) (idle : Bool) → is_done p waiting idle ≡ false
    → slots_of_pieces (pieces_from p waiting idle) ≢ []
slots_from-more p waiting idle d e =
    elim (full (filter (in_frame (frame_at p)) waiting)) [
      | inl n ↦ let k = ap slots_of_pieces (pieces_from-wait p (p + 1) waiting idle n d refl) in cc
      | inr x ↦ let k = ap slots_of_pieces (pieces_from-send p (p + length (run x.0)) waiting idle x.0 x.1 x.2 refl) in starts x.0 _ (sym k ∙ e)
    ]
  where
    full : (pages : List Page) → (pages ≡ []) ⊎ ((page : Page) × (more : List Page) × pages ≡ page ∷ more)
    full [] = inl refl
    full (page ∷ more) = inr (page, more, refl)

-- where one is left, it is not the end
pub slots_from-not_done : (p : ℕ) (waiting : List Page) (idle : Bool) → slots_of_pieces (pieces_from p waiting idle) ≢ []
    → is_done p waiting idle ≡ false
slots_from-not_done p waiting idle h = tell (is_done p waiting idle) refl
  where
    tell : (b : Bool) → is_done p waiting idle ≡ b → is_done p waiting idle ≡ false
    tell true e = absurd (h (ap slots_of_pieces (pieces_from-done p waiting idle e)))
    tell false e = e

-- from the first place on they meet the four conditions
pub pieces_from-layout : (waiting : List Page) → waiting ≢ [] → IsLayout waiting (pieces_from 0 waiting true)
pieces_from-layout waiting some = lays_layout waiting _ some (pieces_from-lays 0 waiting true)

-- the pages that wait still after some, and then after others
pub still-append : (xs ys waiting : List Page) → still (xs ++ ys) waiting ≡ still ys (still xs waiting)
still-append [] ys waiting = refl
still-append (page ∷ xs) ys waiting = still-append xs ys (without_first (frame page) waiting)
