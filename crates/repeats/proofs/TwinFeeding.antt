-- What a group that hears transmissions twice does with what its front end met.
use Rattle.std.proofs.Common.{◌≡◌, ℕ, ◌+◌, ◌≤◌, Bool, true, false, List, ◌++◌, Option, arith, refl, sym, ◌∙◌, ap, subst}
use Rattle.receiver.specs.FrontSteps.{FrontGoesOn, HearsPage, page_after, completed_by, slots_by}
use Rattle.receiver.specs.Fronts.{FrontEnd, FrontIsAt, HasUnderWay, page_under_way}
use Rattle.receiver.specs.Heard.{HeardPage}
use Rattle.receiver.specs.Listeners.{is_one_of, ready_pages}
use Rattle.receiver.specs.Slots.{slots_in}
use Rattle.receiver.specs.declared.front.FrontEvent.{FrontEvent}
use Rattle.receiver.specs.declared.front.FrontEvent.TheVariants.{Still, Batch, Slot, Lost}
use Rattle.repeats.specs.Twin.{heard_twice}
use Rattle.repeats.specs.TwinListeners.{Paired, JoinsEvent, JoinsSlot, TwinListener, StandsForTwice, InEither}
use Rattle.repeats.proofs.TwinSteps.{told, heard_is_told, twin_step}

-- a front end met an event at further bits, the pairing joined it, and the pages went on with what came of it
pub record TwinMet (before after : TwinListener) (event joined : FrontEvent) (more : List Bool) : Type 0 where
  pub capcodes : after.capcodes ≡ before.capcodes
  pub goes : (bits : List Bool) (found : List (List ℕ)) (words : Option (List ℕ)) → FrontIsAt before.front bits found words
      → FrontGoesOn after.front event found words (bits ++ more)
  pub joins : JoinsEvent before.paired event joined after.paired
  pub page : after.under_way ≡ page_after (is_one_of before.capcodes) before.under_way joined
  pub ready : completed_by before.under_way joined ≡ ready_pages after.ready

pub twin_stands : (before after : TwinListener) (event joined : FrontEvent) (more : List Bool) → TwinMet before after event joined more
    → (bits : List Bool) → StandsForTwice before bits → StandsForTwice after (bits ++ more)
twin_stands before after event joined more m bits here =
    let g = m.goes bits here.before here.words here.at in
    let e = twin_step event joined (is_one_of before.capcodes) before.paired after.paired before.under_way here.before g.before_after here.words g.words_after g.moves m.joins here.pairing in
    record {
      before = g.before_after;
      words = g.words_after;
      at = g.at;
      pairing =
          subst (λ (cs : List ℕ). InEither after.paired.second (is_one_of cs) after.paired after.under_way g.before_after g.words_after) (sym m.capcodes)
          (subst (λ (o : Option HeardPage). InEither after.paired.second (is_one_of before.capcodes) after.paired o g.before_after g.words_after) (sym m.page) e.0);
    }

pub twin_page : (before after : TwinListener) (event joined : FrontEvent) (more : List Bool) → TwinMet before after event joined more
    → (bits : List Bool) → StandsForTwice before bits
    → heard_twice (is_one_of before.capcodes) (bits ++ more) ≡ heard_twice (is_one_of before.capcodes) bits ++ ready_pages after.ready
twin_page before after event joined more m bits here =
    let listens = is_one_of before.capcodes in
    let g = m.goes bits here.before here.words here.at in
    let e = twin_step event joined listens before.paired after.paired before.under_way here.before g.before_after here.words g.words_after g.moves m.joins here.pairing in
    heard_is_told after.front (bits ++ more) listens g.before_after g.words_after g.at ∙ e.1
    ∙ ap (λ (ps : List HeardPage). told listens here.before here.words ++ ps) m.ready
    ∙ ap (λ (ps : List HeardPage). ps ++ ready_pages after.ready) (sym (heard_is_told before.front bits listens here.before here.words here.at))

-- what the pairing makes of an event is no slot where the event is none
slot_steps : (second : Bool) (paired now : Paired) (place word : ℕ) (joined : FrontEvent) → JoinsSlot second paired place word joined now → slots_by joined ≤ 1
slot_steps false paired now place word joined j = let e = ap slots_by j.0 in omega arith
slot_steps true paired now place word joined j = let e = ap slots_by j.1 in omega arith

pub joined_slots : (event joined : FrontEvent) (paired now : Paired) → JoinsEvent paired event joined now → slots_by joined ≤ slots_by event
joined_slots Still joined paired now j = let e = ap slots_by j.0 in omega arith
joined_slots Batch joined paired now j = let e = ap slots_by j.0 in omega arith
joined_slots (Slot place word) joined paired now j = slot_steps paired.second paired now place word joined j
joined_slots Lost joined paired now j = let e = ap slots_by j.0 in omega arith

pub one_slot : (event : FrontEvent) → slots_by event ≤ 1
one_slot Still = omega arith
one_slot Batch = omega arith
one_slot (Slot place word) = omega arith
one_slot Lost = omega arith

-- the steps count at most the slots that came
pub twin_slots : (front after : FrontEnd) (event joined : FrontEvent) (paired now : Paired) (more : List Bool) (n m : ℕ) (capcodes : List ℕ)
    → ((listens : ℕ → Bool) (page : Option HeardPage) (bits : List Bool) → HasUnderWay listens front page bits → HearsPage listens page after event bits (bits ++ more))
    → JoinsEvent paired event joined now → m ≡ n + slots_by joined
    → (bits : List Bool) (found : List (List ℕ)) (words : Option (List ℕ)) → FrontIsAt front bits found words → m + slots_in bits ≤ n + slots_in (bits ++ more)
twin_slots front after event joined paired now more n m capcodes hears j e bits found words at =
    let listens = is_one_of capcodes in
    let under : HasUnderWay listens front (page_under_way listens words) bits = record { before = found; words = words; at = at; page-is = refl } in
    let s = (hears listens (page_under_way listens words) bits under).slots in
    let l = joined_slots event joined paired now j in
    omega arith
