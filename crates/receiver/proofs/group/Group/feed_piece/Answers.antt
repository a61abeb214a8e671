use Rattle.std.proofs.Common.{List, [], Option, refl, sym, ◌∙◌, ap, subst, rules}
use Rattle.receiver.specs.FrontSteps.{page_after, completed_by}
use Rattle.std.specs.Map.{keys_of}
use Rattle.receiver.specs.Heard.{HeardPage}
use Rattle.receiver.specs.Listeners.{Listener, is_one_of, listener_of}
use Rattle.wires.specs.Pieces.{taken_of}
use Rattle.receiver.proofs.Last.{last_page}
use Rattle.receiver.proofs.Meets.{Met, fed_met, met_slots}
use Rattle.receiver.proofs.Pieces.{Fed, fed_then, fed_none, none_ready, some_less, counts_then, counts_none}
use Rattle.receiver.proofs.group.Group.feed_piece.Goals as goal

pub returns-in-Some-clause-capcodes : goal.returns-in-Some-clause-capcodes
returns-in-Some-clause-capcodes g c =
    let before = listener_of c.loop-page.self-inside.front (keys_of c.loop-page.self-inside.holders) c.loop-page.self-inside.holders c.loop-page.self-inside.gathering in
    let after = listener_of c.feed_piece-event.new.self (keys_of c.loop-page.self-inside.holders) c.loop-page.self-inside.holders c.meet.new.self in
    let met : Met before after c.feed_piece-event.result (taken_of c.loop-page.piece c.feed_piece-event.new.piece) = record { capcodes = refl; hears = c.feed_piece-event.ensures.hears; page = c.meet.ensures.page ∙ ap (λ (u : Option HeardPage). page_after (is_one_of before.capcodes) u c.feed_piece-event.result) c.forget.ensures.page; ready = ap (λ (u : Option HeardPage). completed_by u c.feed_piece-event.result) (sym c.forget.ensures.page) ∙ c.meet.ensures.ready } in
    let all = fed_then _ _ _ _ _ _ _ c.loop-page.invariant.fed (fed_met before after c.feed_piece-event.result c.loop-page.piece c.feed_piece-event.new.piece met refl c.feed_piece-event.ensures.whole) in
    all.capcodes

pub returns-in-Some-clause-holders : goal.returns-in-Some-clause-holders
returns-in-Some-clause-holders g c =
    let before = listener_of c.loop-page.self-inside.front (keys_of c.loop-page.self-inside.holders) c.loop-page.self-inside.holders c.loop-page.self-inside.gathering in
    let after = listener_of c.feed_piece-event.new.self (keys_of c.loop-page.self-inside.holders) c.loop-page.self-inside.holders c.meet.new.self in
    let met : Met before after c.feed_piece-event.result (taken_of c.loop-page.piece c.feed_piece-event.new.piece) = record { capcodes = refl; hears = c.feed_piece-event.ensures.hears; page = c.meet.ensures.page ∙ ap (λ (u : Option HeardPage). page_after (is_one_of before.capcodes) u c.feed_piece-event.result) c.forget.ensures.page; ready = ap (λ (u : Option HeardPage). completed_by u c.feed_piece-event.result) (sym c.forget.ensures.page) ∙ c.meet.ensures.ready } in
    let all = fed_then _ _ _ _ _ _ _ c.loop-page.invariant.fed (fed_met before after c.feed_piece-event.result c.loop-page.piece c.feed_piece-event.new.piece met refl c.feed_piece-event.ensures.whole) in
    all.holders

pub returns-in-Some-clause-stands : goal.returns-in-Some-clause-stands
returns-in-Some-clause-stands g c =
    let before = listener_of c.loop-page.self-inside.front (keys_of c.loop-page.self-inside.holders) c.loop-page.self-inside.holders c.loop-page.self-inside.gathering in
    let after = listener_of c.feed_piece-event.new.self (keys_of c.loop-page.self-inside.holders) c.loop-page.self-inside.holders c.meet.new.self in
    let met : Met before after c.feed_piece-event.result (taken_of c.loop-page.piece c.feed_piece-event.new.piece) = record { capcodes = refl; hears = c.feed_piece-event.ensures.hears; page = c.meet.ensures.page ∙ ap (λ (u : Option HeardPage). page_after (is_one_of before.capcodes) u c.feed_piece-event.result) c.forget.ensures.page; ready = ap (λ (u : Option HeardPage). completed_by u c.feed_piece-event.result) (sym c.forget.ensures.page) ∙ c.meet.ensures.ready } in
    let all = fed_then _ _ _ _ _ _ _ c.loop-page.invariant.fed (fed_met before after c.feed_piece-event.result c.loop-page.piece c.feed_piece-event.new.piece met refl c.feed_piece-event.ensures.whole) in
    all.stands

pub returns-in-Some-clause-page : goal.returns-in-Some-clause-page
returns-in-Some-clause-page g c =
    let before = listener_of c.loop-page.self-inside.front (keys_of c.loop-page.self-inside.holders) c.loop-page.self-inside.holders c.loop-page.self-inside.gathering in
    let after = listener_of c.feed_piece-event.new.self (keys_of c.loop-page.self-inside.holders) c.loop-page.self-inside.holders c.meet.new.self in
    let met : Met before after c.feed_piece-event.result (taken_of c.loop-page.piece c.feed_piece-event.new.piece) = record { capcodes = refl; hears = c.feed_piece-event.ensures.hears; page = c.meet.ensures.page ∙ ap (λ (u : Option HeardPage). page_after (is_one_of before.capcodes) u c.feed_piece-event.result) c.forget.ensures.page; ready = ap (λ (u : Option HeardPage). completed_by u c.feed_piece-event.result) (sym c.forget.ensures.page) ∙ c.meet.ensures.ready } in
    let all = fed_then _ _ _ _ _ _ _ c.loop-page.invariant.fed (fed_met before after c.feed_piece-event.result c.loop-page.piece c.feed_piece-event.new.piece met refl c.feed_piece-event.ensures.whole) in
    all.page

pub returns-in-Some-clause-whole : goal.returns-in-Some-clause-whole
returns-in-Some-clause-whole g c =
    let before = listener_of c.loop-page.self-inside.front (keys_of c.loop-page.self-inside.holders) c.loop-page.self-inside.holders c.loop-page.self-inside.gathering in
    let after = listener_of c.feed_piece-event.new.self (keys_of c.loop-page.self-inside.holders) c.loop-page.self-inside.holders c.meet.new.self in
    let met : Met before after c.feed_piece-event.result (taken_of c.loop-page.piece c.feed_piece-event.new.piece) = record { capcodes = refl; hears = c.feed_piece-event.ensures.hears; page = c.meet.ensures.page ∙ ap (λ (u : Option HeardPage). page_after (is_one_of before.capcodes) u c.feed_piece-event.result) c.forget.ensures.page; ready = ap (λ (u : Option HeardPage). completed_by u c.feed_piece-event.result) (sym c.forget.ensures.page) ∙ c.meet.ensures.ready } in
    let all = fed_then _ _ _ _ _ _ _ c.loop-page.invariant.fed (fed_met before after c.feed_piece-event.result c.loop-page.piece c.feed_piece-event.new.piece met refl c.feed_piece-event.ensures.whole) in
    all.whole

pub returns-in-Some-clause-last : goal.returns-in-Some-clause-last
returns-in-Some-clause-last g c = last_page _ _ _ _ _ c.loop-page.invariant.fed c.feed_piece-event.ensures.whole c.feed_piece-event.ensures.last_page

pub returns-in-Some-clause-some : goal.returns-in-Some-clause-some
returns-in-Some-clause-some g c = some_less _ _ _ c.loop-page.invariant.fed.whole c.feed_piece-event.ensures.whole c.feed_piece-event.ensures.some

pub returns-in-Some-clause-steps : goal.returns-in-Some-clause-steps
returns-in-Some-clause-steps g c =
    let before = listener_of c.loop-page.self-inside.front (keys_of c.loop-page.self-inside.holders) c.loop-page.self-inside.holders c.loop-page.self-inside.gathering in
    let after = listener_of c.feed_piece-event.new.self (keys_of c.loop-page.self-inside.holders) c.loop-page.self-inside.holders c.meet.new.self in
    let met : Met before after c.feed_piece-event.result (taken_of c.loop-page.piece c.feed_piece-event.new.piece) = record { capcodes = refl; hears = c.feed_piece-event.ensures.hears; page = c.meet.ensures.page ∙ ap (λ (u : Option HeardPage). page_after (is_one_of before.capcodes) u c.feed_piece-event.result) c.forget.ensures.page; ready = ap (λ (u : Option HeardPage). completed_by u c.feed_piece-event.result) (sym c.forget.ensures.page) ∙ c.meet.ensures.ready } in
    let all = fed_then _ _ _ _ _ _ _ c.loop-page.invariant.fed (fed_met before after c.feed_piece-event.result c.loop-page.piece c.feed_piece-event.new.piece met refl c.feed_piece-event.ensures.whole) in
    counts_then _ _ _ _ _ _ _ _ c.loop-page.invariant.fed c.feed_piece-event.ensures.whole c.loop-page.invariant.counts (met_slots before after c.feed_piece-event.result _ _ _ met c.meet.ensures.steps)

pub returns-then-is_empty-clause-capcodes : goal.returns-then-is_empty-clause-capcodes
returns-then-is_empty-clause-capcodes g c =
    let before = listener_of c.loop-page.self-inside.front (keys_of c.loop-page.self-inside.holders) c.loop-page.self-inside.holders c.loop-page.self-inside.gathering in
    let after = listener_of c.feed_piece-event.new.self (keys_of c.loop-page.self-inside.holders) c.loop-page.self-inside.holders c.meet.new.self in
    let met : Met before after c.feed_piece-event.result (taken_of c.loop-page.piece c.feed_piece-event.new.piece) = record { capcodes = refl; hears = c.feed_piece-event.ensures.hears; page = c.meet.ensures.page ∙ ap (λ (u : Option HeardPage). page_after (is_one_of before.capcodes) u c.feed_piece-event.result) c.forget.ensures.page; ready = ap (λ (u : Option HeardPage). completed_by u c.feed_piece-event.result) (sym c.forget.ensures.page) ∙ c.meet.ensures.ready } in
    let all = fed_then _ _ _ _ _ _ _ c.loop-page.invariant.fed (fed_met before after c.feed_piece-event.result c.loop-page.piece c.feed_piece-event.new.piece met refl c.feed_piece-event.ensures.whole) in
    all.capcodes

pub returns-then-is_empty-clause-holders : goal.returns-then-is_empty-clause-holders
returns-then-is_empty-clause-holders g c =
    let before = listener_of c.loop-page.self-inside.front (keys_of c.loop-page.self-inside.holders) c.loop-page.self-inside.holders c.loop-page.self-inside.gathering in
    let after = listener_of c.feed_piece-event.new.self (keys_of c.loop-page.self-inside.holders) c.loop-page.self-inside.holders c.meet.new.self in
    let met : Met before after c.feed_piece-event.result (taken_of c.loop-page.piece c.feed_piece-event.new.piece) = record { capcodes = refl; hears = c.feed_piece-event.ensures.hears; page = c.meet.ensures.page ∙ ap (λ (u : Option HeardPage). page_after (is_one_of before.capcodes) u c.feed_piece-event.result) c.forget.ensures.page; ready = ap (λ (u : Option HeardPage). completed_by u c.feed_piece-event.result) (sym c.forget.ensures.page) ∙ c.meet.ensures.ready } in
    let all = fed_then _ _ _ _ _ _ _ c.loop-page.invariant.fed (fed_met before after c.feed_piece-event.result c.loop-page.piece c.feed_piece-event.new.piece met refl c.feed_piece-event.ensures.whole) in
    all.holders

pub returns-then-is_empty-clause-stands : goal.returns-then-is_empty-clause-stands
returns-then-is_empty-clause-stands g c =
    let before = listener_of c.loop-page.self-inside.front (keys_of c.loop-page.self-inside.holders) c.loop-page.self-inside.holders c.loop-page.self-inside.gathering in
    let after = listener_of c.feed_piece-event.new.self (keys_of c.loop-page.self-inside.holders) c.loop-page.self-inside.holders c.meet.new.self in
    let met : Met before after c.feed_piece-event.result (taken_of c.loop-page.piece c.feed_piece-event.new.piece) = record { capcodes = refl; hears = c.feed_piece-event.ensures.hears; page = c.meet.ensures.page ∙ ap (λ (u : Option HeardPage). page_after (is_one_of before.capcodes) u c.feed_piece-event.result) c.forget.ensures.page; ready = ap (λ (u : Option HeardPage). completed_by u c.feed_piece-event.result) (sym c.forget.ensures.page) ∙ c.meet.ensures.ready } in
    let all = fed_then _ _ _ _ _ _ _ c.loop-page.invariant.fed (fed_met before after c.feed_piece-event.result c.loop-page.piece c.feed_piece-event.new.piece met refl c.feed_piece-event.ensures.whole) in
    all.stands

pub returns-then-is_empty-clause-page : goal.returns-then-is_empty-clause-page
returns-then-is_empty-clause-page g c =
    let before = listener_of c.loop-page.self-inside.front (keys_of c.loop-page.self-inside.holders) c.loop-page.self-inside.holders c.loop-page.self-inside.gathering in
    let after = listener_of c.feed_piece-event.new.self (keys_of c.loop-page.self-inside.holders) c.loop-page.self-inside.holders c.meet.new.self in
    let met : Met before after c.feed_piece-event.result (taken_of c.loop-page.piece c.feed_piece-event.new.piece) = record { capcodes = refl; hears = c.feed_piece-event.ensures.hears; page = c.meet.ensures.page ∙ ap (λ (u : Option HeardPage). page_after (is_one_of before.capcodes) u c.feed_piece-event.result) c.forget.ensures.page; ready = ap (λ (u : Option HeardPage). completed_by u c.feed_piece-event.result) (sym c.forget.ensures.page) ∙ c.meet.ensures.ready } in
    let all = fed_then _ _ _ _ _ _ _ c.loop-page.invariant.fed (fed_met before after c.feed_piece-event.result c.loop-page.piece c.feed_piece-event.new.piece met refl c.feed_piece-event.ensures.whole) in
    all.page

pub returns-then-is_empty-clause-whole : goal.returns-then-is_empty-clause-whole
returns-then-is_empty-clause-whole g c =
    let before = listener_of c.loop-page.self-inside.front (keys_of c.loop-page.self-inside.holders) c.loop-page.self-inside.holders c.loop-page.self-inside.gathering in
    let after = listener_of c.feed_piece-event.new.self (keys_of c.loop-page.self-inside.holders) c.loop-page.self-inside.holders c.meet.new.self in
    let met : Met before after c.feed_piece-event.result (taken_of c.loop-page.piece c.feed_piece-event.new.piece) = record { capcodes = refl; hears = c.feed_piece-event.ensures.hears; page = c.meet.ensures.page ∙ ap (λ (u : Option HeardPage). page_after (is_one_of before.capcodes) u c.feed_piece-event.result) c.forget.ensures.page; ready = ap (λ (u : Option HeardPage). completed_by u c.feed_piece-event.result) (sym c.forget.ensures.page) ∙ c.meet.ensures.ready } in
    let all = fed_then _ _ _ _ _ _ _ c.loop-page.invariant.fed (fed_met before after c.feed_piece-event.result c.loop-page.piece c.feed_piece-event.new.piece met refl c.feed_piece-event.ensures.whole) in
    all.whole

pub returns-then-is_empty-clause-last : goal.returns-then-is_empty-clause-last
returns-then-is_empty-clause-last g c = last_page _ _ _ _ _ c.loop-page.invariant.fed c.feed_piece-event.ensures.whole c.feed_piece-event.ensures.last_page

pub returns-then-is_empty-clause-steps : goal.returns-then-is_empty-clause-steps
returns-then-is_empty-clause-steps g c =
    let before = listener_of c.loop-page.self-inside.front (keys_of c.loop-page.self-inside.holders) c.loop-page.self-inside.holders c.loop-page.self-inside.gathering in
    let after = listener_of c.feed_piece-event.new.self (keys_of c.loop-page.self-inside.holders) c.loop-page.self-inside.holders c.meet.new.self in
    let met : Met before after c.feed_piece-event.result (taken_of c.loop-page.piece c.feed_piece-event.new.piece) = record { capcodes = refl; hears = c.feed_piece-event.ensures.hears; page = c.meet.ensures.page ∙ ap (λ (u : Option HeardPage). page_after (is_one_of before.capcodes) u c.feed_piece-event.result) c.forget.ensures.page; ready = ap (λ (u : Option HeardPage). completed_by u c.feed_piece-event.result) (sym c.forget.ensures.page) ∙ c.meet.ensures.ready } in
    let all = fed_then _ _ _ _ _ _ _ c.loop-page.invariant.fed (fed_met before after c.feed_piece-event.result c.loop-page.piece c.feed_piece-event.new.piece met refl c.feed_piece-event.ensures.whole) in
    counts_then _ _ _ _ _ _ _ _ c.loop-page.invariant.fed c.feed_piece-event.ensures.whole c.loop-page.invariant.counts (met_slots before after c.feed_piece-event.result _ _ _ met c.meet.ensures.steps)

pub loop-page-init : goal.loop-page-init
loop-page-init g c = record {
  fed = subst (λ (l : Listener). Fed l (listener_of c.self.inside.front (keys_of c.self.inside.holders) c.self.inside.holders c.self.inside.gathering) c.args.piece.now c.args.piece.now []) c.self.view_is (fed_none (listener_of c.self.inside.front (keys_of c.self.inside.holders) c.self.inside.holders c.self.inside.gathering) c.args.piece.now);
  counts = counts_none c.args.self.now c.args.steps.now c.args.piece.now;
}

pub loop-page-preserved : goal.loop-page-preserved
loop-page-preserved g c =
    let before = listener_of c.loop-page.self-inside.front (keys_of c.loop-page.self-inside.holders) c.loop-page.self-inside.holders c.loop-page.self-inside.gathering in
    let after = listener_of c.feed_piece-event.new.self (keys_of c.loop-page.self-inside.holders) c.loop-page.self-inside.holders c.meet.new.self in
    let met : Met before after c.feed_piece-event.result (taken_of c.loop-page.piece c.feed_piece-event.new.piece) = record { capcodes = refl; hears = c.feed_piece-event.ensures.hears; page = c.meet.ensures.page ∙ ap (λ (u : Option HeardPage). page_after (is_one_of before.capcodes) u c.feed_piece-event.result) c.forget.ensures.page; ready = ap (λ (u : Option HeardPage). completed_by u c.feed_piece-event.result) (sym c.forget.ensures.page) ∙ c.meet.ensures.ready } in
    let all = fed_then _ _ _ _ _ _ _ c.loop-page.invariant.fed (fed_met before after c.feed_piece-event.result c.loop-page.piece c.feed_piece-event.new.piece met refl c.feed_piece-event.ensures.whole) in
    let nothing = none_ready c.meet.result c.meet.new.self.ready (search rules) c.meet.ensures.answer in
    record {
      fed = subst (λ (pages : List HeardPage). Fed c.args.self.now after c.args.piece.now c.feed_piece-event.new.piece pages) nothing all;
      counts = counts_then _ _ _ _ _ _ _ _ c.loop-page.invariant.fed c.feed_piece-event.ensures.whole c.loop-page.invariant.counts (met_slots before after c.feed_piece-event.result _ _ _ met c.meet.ensures.steps);
    }
