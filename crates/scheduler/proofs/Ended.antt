-- The beginning and the end of a transmission.
use Rattle.std.proofs.Common.{◌≡◌, ◌≢◌, ℕ, ◌%◌, ◌<◌, true, false, List, [], ◌∷◌, ◌++◌, length, map, drop, refl, ◌∙◌, ap, arith, eqb-true, length-drop, inl, inr}
use Rattle.page_text.specs.Page.{Page}
use Rattle.page_pool.specs.Pool.{Live, Pool}
use Rattle.page_pool.specs.Pool.{pages as live_pages}
use Rattle.scheduler.specs.Plan.{is_done, pieces_from}
use Rattle.scheduler.specs.Said.{messages, slots_of_pieces, AreSlots}
use Rattle.scheduler.specs.Sendings.{first_of, slots_to_come, HasRun, SendingStandsAt}
use Rattle.scheduler.specs.declared.slots.Slot.{Slot}
use Rattle.scheduler.specs.declared.sendings.Before.{Before}
use Rattle.scheduler.specs.declared.sendings.Before.TheVariants.{Idle, RunEnd, InRun}
use Rattle.scheduler.proofs.Frames.{true_or_false}
use Rattle.scheduler.proofs.Rest.{pieces_from-done, pieces_from-layout, slots_from-more}

-- a pool without live pages has no pages that wait
pub no_pages : (w : Pool) → length w.live ≡ 0 → live_pages w ≡ []
no_pages w e = none w.live e
  where
    none : (es : List Live) → length es ≡ 0 → map (λ (e : Live). e.page) es ≡ []
    none [] e = refl
    none (x ∷ es) e = absurd (omega (arith, e))

-- a pool without pages that wait has no live pages
pub no_live : (w : Pool) → live_pages w ≡ [] → length w.live ≡ 0
no_live w e = none w.live e
  where
    none : (es : List Live) → map (λ (e : Live). e.page) es ≡ [] → length es ≡ 0
    none [] e = refl
    none (x ∷ es) e = cc

-- at the start of a batch, behind an idle slot, with no page, nothing is left
pub at_end : (w : Pool) (p : ℕ) (last : Before) → last ≡ Idle → p ≡ 0 → live_pages w ≡ [] → slots_to_come w p last ≡ []
at_end w p last is at none =
    ap (slots_to_come w p) is ∙ ap (λ n. slots_of_pieces (pieces_from n (live_pages w) true)) at
    ∙ ap (λ ws. slots_of_pieces (pieces_from 0 ws true)) none ∙ ap slots_of_pieces (pieces_from-done 0 [] true refl)

-- and nowhere else
pub record Ended (w : Pool) (p : ℕ) (last : Before) : Type 0 where
  pub idle : last ≡ Idle
  pub at : p ≡ 0
  pub none : live_pages w ≡ []

pub ended : (w : Pool) (p : ℕ) (last : Before) (text : List ℕ) → p < 16 → HasRun w last text → slots_to_come w p last ≡ [] → Ended w p last
ended w p (InRun f k) text l u e = absurd (let r = (u f k refl).more in omega (arith, r, length-drop k (messages (first_of f w)), ap length {x = drop k (messages (first_of f w))} (front _ _ e)))
  where
    front : (xs ys : List Slot) → xs ++ ys ≡ [] → xs ≡ []
    front [] ys e = refl
    front (x ∷ xs) ys e = cc
ended w p RunEnd text l u e =
    elim (true_or_false (is_done p (live_pages w) false)) [ inl d ↦ absurd (not (live_pages w) d) | inr d ↦ absurd (slots_from-more p (live_pages w) false d e) ]
  where
    not : (ws : List Page) → is_done p ws false ≡ true → ⊥
    not [] d = cc
    not (x ∷ ws) d = cc
ended w p Idle text l u e =
    elim (true_or_false (is_done p (live_pages w) true)) [ inl d ↦ parts (live_pages w) refl d | inr d ↦ absurd (slots_from-more p (live_pages w) true d e) ]
  where
    parts : (ws : List Page) → live_pages w ≡ ws → is_done p ws true ≡ true → Ended w p Idle
    parts [] is d = record { idle = refl; at = omega (arith, eqb-true (p % 16) 0 d, l); none = is }
    parts (x ∷ ws) is d = cc

-- the beginning
pub begins_empty : (w : Pool) → live_pages w ≡ [] → slots_to_come w 0 Idle ≡ []
begins_empty w none = at_end w 0 Idle refl refl none

pub begins_slots : (w : Pool) → live_pages w ≢ [] → AreSlots (live_pages w) (slots_to_come w 0 Idle)
begins_slots w some = record { pieces = pieces_from 0 (live_pages w) true; layout = pieces_from-layout (live_pages w) some; slots_are = refl }

pub begins_stands : (w : Pool) → live_pages w ≢ [] → SendingStandsAt (live_pages w) [] w 0 Idle
begins_stands w some = record { before = []; layout = pieces_from-layout (live_pages w) some; given_is = refl; held = refl }
