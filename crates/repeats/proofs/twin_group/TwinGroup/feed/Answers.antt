use Rattle.std.proofs.Common.{◌≡◌, [], ◌∷◌, ◌++◌, Option, refl, sym, ◌∙◌, ap, subst}
use Rattle.std.specs.Map.{keys_of}
use Rattle.receiver.specs.FrontSteps.{page_after, completed_by}
use Rattle.receiver.specs.Heard.{HeardPage}
use Rattle.receiver.specs.Listeners.{is_one_of, ready_pages}
use Rattle.repeats.specs.Twin.{heard_twice}
use Rattle.repeats.specs.TwinListeners.{TwinListener, StandsForTwice, twin_listener_of}
use Rattle.repeats.proofs.TwinFeeding.{TwinMet, twin_stands, twin_page, twin_slots}
use Rattle.repeats.proofs.twin_group.TwinGroup.feed.Goals as goal

pub returns-clause-stands : goal.returns-clause-stands
returns-clause-stands g c bits here =
    let before = twin_listener_of c.self.inside.front (keys_of c.self.inside.holders) c.self.inside.holders c.self.inside.pairing c.self.inside.gathering in
    let after = twin_listener_of c.feed-event.new.self (keys_of c.self.inside.holders) c.self.inside.holders c.join-joined.new.self c.meet.new.self in
    let met : TwinMet before after c.feed-event.result c.join-joined.result (c.args.bit ∷ []) = record { capcodes = refl; goes = c.feed-event.ensures.goes; joins = c.join-joined.ensures.joins; page = c.meet.ensures.page ∙ ap (λ (u : Option HeardPage). page_after (is_one_of before.capcodes) u c.join-joined.result) c.forget.ensures.page; ready = ap (λ (u : Option HeardPage). completed_by u c.join-joined.result) (sym c.forget.ensures.page) ∙ c.meet.ensures.ready } in
    twin_stands before after c.feed-event.result c.join-joined.result (c.args.bit ∷ []) met bits (subst (λ (l : TwinListener). StandsForTwice l bits) (sym c.self.view_is) here)

pub returns-clause-page : goal.returns-clause-page
returns-clause-page g c bits here =
    let before = twin_listener_of c.self.inside.front (keys_of c.self.inside.holders) c.self.inside.holders c.self.inside.pairing c.self.inside.gathering in
    let after = twin_listener_of c.feed-event.new.self (keys_of c.self.inside.holders) c.self.inside.holders c.join-joined.new.self c.meet.new.self in
    let met : TwinMet before after c.feed-event.result c.join-joined.result (c.args.bit ∷ []) = record { capcodes = refl; goes = c.feed-event.ensures.goes; joins = c.join-joined.ensures.joins; page = c.meet.ensures.page ∙ ap (λ (u : Option HeardPage). page_after (is_one_of before.capcodes) u c.join-joined.result) c.forget.ensures.page; ready = ap (λ (u : Option HeardPage). completed_by u c.join-joined.result) (sym c.forget.ensures.page) ∙ c.meet.ensures.ready } in
    subst (λ (l : TwinListener). StandsForTwice l bits → heard_twice (is_one_of l.capcodes) (bits ++ c.args.bit ∷ []) ≡ heard_twice (is_one_of l.capcodes) bits ++ ready_pages c.meet.new.self.ready)
    c.self.view_is (twin_page before after c.feed-event.result c.join-joined.result (c.args.bit ∷ []) met bits) here

pub returns-clause-steps : goal.returns-clause-steps
returns-clause-steps g c bits here =
    let h = subst (λ (l : TwinListener). StandsForTwice l bits) (sym c.self.view_is) here in
    twin_slots c.self.inside.front c.feed-event.new.self c.feed-event.result c.join-joined.result c.self.inside.pairing c.join-joined.new.self (c.args.bit ∷ [])
    c.args.steps.now c.meet.new.steps [] c.feed-event.ensures.hears c.join-joined.ensures.joins c.meet.ensures.steps bits h.before h.words h.at
