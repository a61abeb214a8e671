-- One slot more: what is left, what was given, and what is held.
use Rattle.std.proofs.Common.{◌≡◌, ℕ, List, [], ◌∷◌, ◌++◌, take, drop, refl, sym, ◌∙◌, ap, subst, append_assoc, append-nil}
use Rattle.std.proofs.lemmas.List.{append_cancel_left, take-append-drop}
use Rattle.page_text.specs.Page.{Page}
use Rattle.page_pool.specs.Pool.{Pool}
use Rattle.page_pool.specs.Pool.{pages as live_pages}
use Rattle.scheduler.specs.Slots.{PlanPiece, pages_in_order, IsLayout}
use Rattle.scheduler.specs.Plan.{still}
use Rattle.scheduler.specs.Said.{messages, run_slots, slots_of_pieces}
use Rattle.scheduler.specs.Sendings.{first_of, pieces_behind, pieces_to_come, begun, slots_to_come, SendingStandsAt}
use Rattle.scheduler.specs.declared.slots.Slot.{Slot}
use Rattle.scheduler.specs.declared.slots.Slot.TheVariants.{Address}
use Rattle.scheduler.specs.declared.sendings.Before.{Before}
use Rattle.scheduler.specs.declared.sendings.Before.TheVariants.{Idle, RunEnd, InRun}
use Rattle.scheduler.proofs.Pieces.{pages-append}
use Rattle.scheduler.proofs.Rest.{still-append}
use Rattle.scheduler.proofs.Said.{slots_in-append}

-- the slots that were given of the run under way, and those still to come, are those of the pieces
pub begun-append : (w : Pool) (place : ℕ) (last : Before) → begun w last ++ slots_to_come w place last ≡ slots_of_pieces (pieces_to_come w place last)
unfolding run_slots
begun-append w place Idle = refl
begun-append w place RunEnd = refl
begun-append w place (InRun f k) =
    let page : Page = first_of f w in
    let behind : List Slot = slots_of_pieces (pieces_behind w place f k) in
    ap (λ l. Address page.capcode page.function ∷ l)
    (sym (append_assoc (take k (messages page)) (drop k (messages page)) behind) ∙ ap (λ l. l ++ behind) (take-append-drop k (messages page)))

-- what a slot changes where it ends a piece
pub record Ends (slot : Slot) (piece : PlanPiece) (w : Pool) (place : ℕ) (last : Before) (w' : Pool) (place' : ℕ) (last' : Before) : Type 0 where
  pub pieces : pieces_to_come w place last ≡ piece ∷ pieces_to_come w' place' last'
  pub given : begun w last ++ slot ∷ [] ≡ slots_of_pieces (piece ∷ [])
  pub none : begun w' last' ≡ []
  pub held : live_pages w' ≡ still (pages_in_order (piece ∷ [])) (live_pages w)

-- what it changes where it doesn't
pub record GoesOn (slot : Slot) (w : Pool) (place : ℕ) (last : Before) (w' : Pool) (place' : ℕ) (last' : Before) : Type 0 where
  pub pieces : pieces_to_come w place last ≡ pieces_to_come w' place' last'
  pub given : begun w last ++ slot ∷ [] ≡ begun w' last'
  pub held : live_pages w' ≡ live_pages w

module _ (slot : Slot) (w : Pool) (place : ℕ) (last : Before) (w' : Pool) (place' : ℕ) (last' : Before) where
  -- it is the first of those that were to come
  pub next-on : GoesOn slot w place last w' place' last' → slots_to_come w place last ≡ slot ∷ slots_to_come w' place' last'
  next-on g = append_cancel_left (begun w last) _ _
      (begun-append w place last ∙ ap slots_of_pieces g.pieces ∙ sym (begun-append w' place' last')
      ∙ ap (λ l. l ++ slots_to_come w' place' last') (sym g.given) ∙ append_assoc (begun w last) (slot ∷ []) (slots_to_come w' place' last'))

  pub next-end : (piece : PlanPiece) → Ends slot piece w place last w' place' last' → slots_to_come w place last ≡ slot ∷ slots_to_come w' place' last'
  next-end piece g = append_cancel_left (begun w last) _ _
      (begun-append w place last ∙ ap slots_of_pieces g.pieces ∙ slots_in-append (piece ∷ []) (pieces_to_come w' place' last')
      ∙ ap (λ l. l ++ slots_of_pieces (pieces_to_come w' place' last')) (sym g.given)
      ∙ append_assoc (begun w last) (slot ∷ []) (slots_of_pieces (pieces_to_come w' place' last'))
      ∙ ap (λ l. begun w last ++ slot ∷ l) (sym (begun-append w' place' last') ∙ ap (λ l. l ++ slots_to_come w' place' last') g.none))

  -- what was given grows by it, and what is held loses the page of a run that is whole
  pub stands-on : GoesOn slot w place last w' place' last' → (accepted : List Page) (given : List Slot) → SendingStandsAt accepted given w place last
      → SendingStandsAt accepted (given ++ slot ∷ []) w' place' last'
  stands-on g accepted given s = record {
    before = s.before;
    layout = subst (λ l. IsLayout accepted (s.before ++ l)) g.pieces s.layout;
    given_is = ap (λ l. l ++ slot ∷ []) s.given_is ∙ append_assoc (slots_of_pieces s.before) (begun w last) (slot ∷ []) ∙ ap (λ l. slots_of_pieces s.before ++ l) g.given;
    held = g.held ∙ s.held;
  }

  pub stands-end : (piece : PlanPiece) → Ends slot piece w place last w' place' last' → (accepted : List Page) (given : List Slot)
      → SendingStandsAt accepted given w place last → SendingStandsAt accepted (given ++ slot ∷ []) w' place' last'
  stands-end piece g accepted given s = record {
    before = s.before ++ piece ∷ [];
    layout = subst (IsLayout accepted) (ap (λ l. s.before ++ l) g.pieces ∙ sym (append_assoc s.before (piece ∷ []) (pieces_to_come w' place' last'))) s.layout;
    given_is = ap (λ l. l ++ slot ∷ []) s.given_is ∙ append_assoc (slots_of_pieces s.before) (begun w last) (slot ∷ [])
        ∙ ap (λ l. slots_of_pieces s.before ++ l) g.given ∙ sym (slots_in-append s.before (piece ∷ []))
        ∙ sym (append-nil (slots_of_pieces (s.before ++ piece ∷ []))) ∙ ap (λ l. slots_of_pieces (s.before ++ piece ∷ []) ++ l) (sym g.none);
    held = g.held ∙ ap (still (pages_in_order (piece ∷ []))) s.held ∙ sym (still-append (pages_in_order s.before) (pages_in_order (piece ∷ [])) accepted)
        ∙ ap (λ l. still l accepted) (sym (pages-append s.before (piece ∷ [])));
  }
