-- What a listener does with what its front end met.
use Rattle.std.proofs.Common.{◌≡◌, ℕ, ◌+◌, Bool, List, ◌++◌, Option, arith, sym, ◌∙◌, ap, subst}
use Rattle.receiver.specs.FrontSteps.{HearsPage, page_after, completed_by, slots_by}
use Rattle.receiver.specs.Fronts.{HasUnderWay}
use Rattle.receiver.specs.Heard.{HeardPage, heard}
use Rattle.receiver.specs.Listeners.{Listener, StandsFor, is_one_of, ready_pages}
use Rattle.receiver.specs.Slots.{slots_in}
use Rattle.receiver.specs.declared.front.FrontEvent.{FrontEvent}
use Rattle.wires.specs.Pieces.{taken_of}
use Rattle.receiver.proofs.Pieces.{Fed}

-- a front end met an event at further bits, and the pages went on with it
pub record Met (before after : Listener) (event : FrontEvent) (more : List Bool) : Type 0 where
  pub capcodes : after.capcodes ≡ before.capcodes
  pub hears : (listens : ℕ → Bool) (page : Option HeardPage) (bits : List Bool) → HasUnderWay listens before.front page bits
      → HearsPage listens page after.front event bits (bits ++ more)
  pub page : after.under_way ≡ page_after (is_one_of before.capcodes) before.under_way event
  pub ready : completed_by before.under_way event ≡ ready_pages after.ready

pub met_stands : (before after : Listener) (event : FrontEvent) (more : List Bool) → Met before after event more
    → (bits : List Bool) → StandsFor before bits → StandsFor after (bits ++ more)
met_stands before after event more m bits here =
    let s = (m.hears (is_one_of before.capcodes) before.under_way bits here).stands in
    subst (λ (cs : List ℕ). HasUnderWay (is_one_of cs) after.front after.under_way (bits ++ more)) (sym m.capcodes)
    (subst (λ (p : Option HeardPage). HasUnderWay (is_one_of before.capcodes) after.front p (bits ++ more)) (sym m.page) s)

pub met_page : (before after : Listener) (event : FrontEvent) (more : List Bool) → Met before after event more
    → (bits : List Bool) → StandsFor before bits
    → heard (is_one_of before.capcodes) (bits ++ more) ≡ heard (is_one_of before.capcodes) bits ++ ready_pages after.ready
met_page before after event more m bits here =
    (m.hears (is_one_of before.capcodes) before.under_way bits here).pages ∙ ap (λ (ps : List HeardPage). heard (is_one_of before.capcodes) bits ++ ps) m.ready

pub met_slots : (before after : Listener) (event : FrontEvent) (more : List Bool) (n m : ℕ) → Met before after event more → m ≡ n + slots_by event
    → (bits : List Bool) → StandsFor before bits → m + slots_in bits ≡ n + slots_in (bits ++ more)
met_slots before after event more n m met e bits here =
    let s = (met.hears (is_one_of before.capcodes) before.under_way bits here).slots in
    omega arith

-- it took the first bits of a piece
pub fed_met : (before after : Listener) (event : FrontEvent) (piece left : List Bool) → Met before after event (taken_of piece left) → after.holders ≡ before.holders
    → piece ≡ taken_of piece left ++ left → Fed before after piece left (ready_pages after.ready)
fed_met before after event piece left m holders whole = record {
  whole = whole;
  capcodes = m.capcodes;
  holders = holders;
  stands = met_stands before after event (taken_of piece left) m;
  page = met_page before after event (taken_of piece left) m;
}
