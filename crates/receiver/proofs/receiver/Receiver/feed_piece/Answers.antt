use Rattle.std.proofs.Common.{List, [], Option, refl, sym, ◌∙◌, ap, subst, rules}
use Rattle.receiver.specs.FrontSteps.{page_after, completed_by}
use Rattle.receiver.specs.Heard.{HeardPage}
use Rattle.receiver.specs.Listeners.{Listener, is_one_of, listener_of}
use Rattle.wires.specs.Pieces.{taken_of}
use Rattle.receiver.proofs.Last.{last_page}
use Rattle.receiver.proofs.Meets.{Met, fed_met}
use Rattle.receiver.proofs.Pieces.{Fed, fed_then, fed_none, none_ready, some_less}
use Rattle.receiver.proofs.receiver.Receiver.feed_piece.Goals as goal

pub returns-in-Some-clause-capcodes : goal.returns-in-Some-clause-capcodes
returns-in-Some-clause-capcodes c =
    let before = listener_of c.loop-page.self-inside.front c.loop-page.self-inside.capcodes [] c.loop-page.self-inside.gathering in
    let after = listener_of c.feed_piece-event.new.self c.loop-page.self-inside.capcodes [] c.meet.new.self in
    let met : Met before after c.feed_piece-event.result (taken_of c.loop-page.piece c.feed_piece-event.new.piece) = record { capcodes = refl; hears = c.feed_piece-event.ensures.hears; page = c.meet.ensures.page ∙ ap (λ (u : Option HeardPage). page_after (is_one_of before.capcodes) u c.feed_piece-event.result) c.forget.ensures.page; ready = ap (λ (u : Option HeardPage). completed_by u c.feed_piece-event.result) (sym c.forget.ensures.page) ∙ c.meet.ensures.ready } in
    let all = fed_then _ _ _ _ _ _ _ c.loop-page.invariant (fed_met before after c.feed_piece-event.result c.loop-page.piece c.feed_piece-event.new.piece met refl c.feed_piece-event.ensures.whole) in
    all.capcodes

pub returns-in-Some-clause-stands : goal.returns-in-Some-clause-stands
returns-in-Some-clause-stands c =
    let before = listener_of c.loop-page.self-inside.front c.loop-page.self-inside.capcodes [] c.loop-page.self-inside.gathering in
    let after = listener_of c.feed_piece-event.new.self c.loop-page.self-inside.capcodes [] c.meet.new.self in
    let met : Met before after c.feed_piece-event.result (taken_of c.loop-page.piece c.feed_piece-event.new.piece) = record { capcodes = refl; hears = c.feed_piece-event.ensures.hears; page = c.meet.ensures.page ∙ ap (λ (u : Option HeardPage). page_after (is_one_of before.capcodes) u c.feed_piece-event.result) c.forget.ensures.page; ready = ap (λ (u : Option HeardPage). completed_by u c.feed_piece-event.result) (sym c.forget.ensures.page) ∙ c.meet.ensures.ready } in
    let all = fed_then _ _ _ _ _ _ _ c.loop-page.invariant (fed_met before after c.feed_piece-event.result c.loop-page.piece c.feed_piece-event.new.piece met refl c.feed_piece-event.ensures.whole) in
    all.stands

pub returns-in-Some-clause-page : goal.returns-in-Some-clause-page
returns-in-Some-clause-page c =
    let before = listener_of c.loop-page.self-inside.front c.loop-page.self-inside.capcodes [] c.loop-page.self-inside.gathering in
    let after = listener_of c.feed_piece-event.new.self c.loop-page.self-inside.capcodes [] c.meet.new.self in
    let met : Met before after c.feed_piece-event.result (taken_of c.loop-page.piece c.feed_piece-event.new.piece) = record { capcodes = refl; hears = c.feed_piece-event.ensures.hears; page = c.meet.ensures.page ∙ ap (λ (u : Option HeardPage). page_after (is_one_of before.capcodes) u c.feed_piece-event.result) c.forget.ensures.page; ready = ap (λ (u : Option HeardPage). completed_by u c.feed_piece-event.result) (sym c.forget.ensures.page) ∙ c.meet.ensures.ready } in
    let all = fed_then _ _ _ _ _ _ _ c.loop-page.invariant (fed_met before after c.feed_piece-event.result c.loop-page.piece c.feed_piece-event.new.piece met refl c.feed_piece-event.ensures.whole) in
    all.page

pub returns-in-Some-clause-whole : goal.returns-in-Some-clause-whole
returns-in-Some-clause-whole c =
    let before = listener_of c.loop-page.self-inside.front c.loop-page.self-inside.capcodes [] c.loop-page.self-inside.gathering in
    let after = listener_of c.feed_piece-event.new.self c.loop-page.self-inside.capcodes [] c.meet.new.self in
    let met : Met before after c.feed_piece-event.result (taken_of c.loop-page.piece c.feed_piece-event.new.piece) = record { capcodes = refl; hears = c.feed_piece-event.ensures.hears; page = c.meet.ensures.page ∙ ap (λ (u : Option HeardPage). page_after (is_one_of before.capcodes) u c.feed_piece-event.result) c.forget.ensures.page; ready = ap (λ (u : Option HeardPage). completed_by u c.feed_piece-event.result) (sym c.forget.ensures.page) ∙ c.meet.ensures.ready } in
    let all = fed_then _ _ _ _ _ _ _ c.loop-page.invariant (fed_met before after c.feed_piece-event.result c.loop-page.piece c.feed_piece-event.new.piece met refl c.feed_piece-event.ensures.whole) in
    all.whole

pub returns-in-Some-clause-last : goal.returns-in-Some-clause-last
returns-in-Some-clause-last c = last_page _ _ _ _ _ c.loop-page.invariant c.feed_piece-event.ensures.whole c.feed_piece-event.ensures.last_page

pub returns-in-Some-clause-some : goal.returns-in-Some-clause-some
returns-in-Some-clause-some c = some_less _ _ _ c.loop-page.invariant.whole c.feed_piece-event.ensures.whole c.feed_piece-event.ensures.some

pub returns-then-is_empty-clause-capcodes : goal.returns-then-is_empty-clause-capcodes
returns-then-is_empty-clause-capcodes c =
    let before = listener_of c.loop-page.self-inside.front c.loop-page.self-inside.capcodes [] c.loop-page.self-inside.gathering in
    let after = listener_of c.feed_piece-event.new.self c.loop-page.self-inside.capcodes [] c.meet.new.self in
    let met : Met before after c.feed_piece-event.result (taken_of c.loop-page.piece c.feed_piece-event.new.piece) = record { capcodes = refl; hears = c.feed_piece-event.ensures.hears; page = c.meet.ensures.page ∙ ap (λ (u : Option HeardPage). page_after (is_one_of before.capcodes) u c.feed_piece-event.result) c.forget.ensures.page; ready = ap (λ (u : Option HeardPage). completed_by u c.feed_piece-event.result) (sym c.forget.ensures.page) ∙ c.meet.ensures.ready } in
    let all = fed_then _ _ _ _ _ _ _ c.loop-page.invariant (fed_met before after c.feed_piece-event.result c.loop-page.piece c.feed_piece-event.new.piece met refl c.feed_piece-event.ensures.whole) in
    all.capcodes

pub returns-then-is_empty-clause-stands : goal.returns-then-is_empty-clause-stands
returns-then-is_empty-clause-stands c =
    let before = listener_of c.loop-page.self-inside.front c.loop-page.self-inside.capcodes [] c.loop-page.self-inside.gathering in
    let after = listener_of c.feed_piece-event.new.self c.loop-page.self-inside.capcodes [] c.meet.new.self in
    let met : Met before after c.feed_piece-event.result (taken_of c.loop-page.piece c.feed_piece-event.new.piece) = record { capcodes = refl; hears = c.feed_piece-event.ensures.hears; page = c.meet.ensures.page ∙ ap (λ (u : Option HeardPage). page_after (is_one_of before.capcodes) u c.feed_piece-event.result) c.forget.ensures.page; ready = ap (λ (u : Option HeardPage). completed_by u c.feed_piece-event.result) (sym c.forget.ensures.page) ∙ c.meet.ensures.ready } in
    let all = fed_then _ _ _ _ _ _ _ c.loop-page.invariant (fed_met before after c.feed_piece-event.result c.loop-page.piece c.feed_piece-event.new.piece met refl c.feed_piece-event.ensures.whole) in
    all.stands

pub returns-then-is_empty-clause-page : goal.returns-then-is_empty-clause-page
returns-then-is_empty-clause-page c =
    let before = listener_of c.loop-page.self-inside.front c.loop-page.self-inside.capcodes [] c.loop-page.self-inside.gathering in
    let after = listener_of c.feed_piece-event.new.self c.loop-page.self-inside.capcodes [] c.meet.new.self in
    let met : Met before after c.feed_piece-event.result (taken_of c.loop-page.piece c.feed_piece-event.new.piece) = record { capcodes = refl; hears = c.feed_piece-event.ensures.hears; page = c.meet.ensures.page ∙ ap (λ (u : Option HeardPage). page_after (is_one_of before.capcodes) u c.feed_piece-event.result) c.forget.ensures.page; ready = ap (λ (u : Option HeardPage). completed_by u c.feed_piece-event.result) (sym c.forget.ensures.page) ∙ c.meet.ensures.ready } in
    let all = fed_then _ _ _ _ _ _ _ c.loop-page.invariant (fed_met before after c.feed_piece-event.result c.loop-page.piece c.feed_piece-event.new.piece met refl c.feed_piece-event.ensures.whole) in
    all.page

pub returns-then-is_empty-clause-whole : goal.returns-then-is_empty-clause-whole
returns-then-is_empty-clause-whole c =
    let before = listener_of c.loop-page.self-inside.front c.loop-page.self-inside.capcodes [] c.loop-page.self-inside.gathering in
    let after = listener_of c.feed_piece-event.new.self c.loop-page.self-inside.capcodes [] c.meet.new.self in
    let met : Met before after c.feed_piece-event.result (taken_of c.loop-page.piece c.feed_piece-event.new.piece) = record { capcodes = refl; hears = c.feed_piece-event.ensures.hears; page = c.meet.ensures.page ∙ ap (λ (u : Option HeardPage). page_after (is_one_of before.capcodes) u c.feed_piece-event.result) c.forget.ensures.page; ready = ap (λ (u : Option HeardPage). completed_by u c.feed_piece-event.result) (sym c.forget.ensures.page) ∙ c.meet.ensures.ready } in
    let all = fed_then _ _ _ _ _ _ _ c.loop-page.invariant (fed_met before after c.feed_piece-event.result c.loop-page.piece c.feed_piece-event.new.piece met refl c.feed_piece-event.ensures.whole) in
    all.whole

pub returns-then-is_empty-clause-last : goal.returns-then-is_empty-clause-last
returns-then-is_empty-clause-last c = last_page _ _ _ _ _ c.loop-page.invariant c.feed_piece-event.ensures.whole c.feed_piece-event.ensures.last_page

pub loop-page-init : goal.loop-page-init
loop-page-init c = subst (λ (l : Listener). Fed l (listener_of c.self.inside.front c.self.inside.capcodes [] c.self.inside.gathering) c.args.piece.now c.args.piece.now []) c.self.view_is (fed_none (listener_of c.self.inside.front c.self.inside.capcodes [] c.self.inside.gathering) c.args.piece.now)

pub loop-page-preserved : goal.loop-page-preserved
loop-page-preserved c =
    let before = listener_of c.loop-page.self-inside.front c.loop-page.self-inside.capcodes [] c.loop-page.self-inside.gathering in
    let after = listener_of c.feed_piece-event.new.self c.loop-page.self-inside.capcodes [] c.meet.new.self in
    let met : Met before after c.feed_piece-event.result (taken_of c.loop-page.piece c.feed_piece-event.new.piece) = record { capcodes = refl; hears = c.feed_piece-event.ensures.hears; page = c.meet.ensures.page ∙ ap (λ (u : Option HeardPage). page_after (is_one_of before.capcodes) u c.feed_piece-event.result) c.forget.ensures.page; ready = ap (λ (u : Option HeardPage). completed_by u c.feed_piece-event.result) (sym c.forget.ensures.page) ∙ c.meet.ensures.ready } in
    let all = fed_then _ _ _ _ _ _ _ c.loop-page.invariant (fed_met before after c.feed_piece-event.result c.loop-page.piece c.feed_piece-event.new.piece met refl c.feed_piece-event.ensures.whole) in
    let nothing = none_ready c.meet.result c.meet.new.self.ready (search rules) c.meet.ensures.answer in
    subst (λ (pages : List HeardPage). Fed c.args.self.now after c.args.piece.now c.feed_piece-event.new.piece pages) nothing all
