use Rattle.std.proofs.Common.{List, [], Option, refl, sym, ◌∙◌, ap, subst, rules}
use Rattle.std.specs.Map.{keys_of}
use Rattle.receiver.specs.FrontSteps.{page_after, completed_by}
use Rattle.receiver.specs.Heard.{HeardPage}
use Rattle.receiver.specs.Listeners.{is_one_of}
use Rattle.receiver.proofs.Pieces.{none_ready, some_less}
use Rattle.wires.specs.Pieces.{taken_of}
use Rattle.repeats.specs.TwinListeners.{TwinListener, twin_listener_of}
use Rattle.repeats.proofs.TwinFeeding.{TwinMet, twin_slots}
use Rattle.repeats.proofs.TwinPieces.{Quiet, TwinFed, TwinCounts, quiet_none, quiet_then, twin_counts_none, twin_counts_then, twin_fed_met, twin_fed_none, twin_fed_then, twin_last}
use Rattle.repeats.proofs.twin_group.TwinGroup.feed_piece.Goals as goal

pub returns-in-Some-clause-capcodes : goal.returns-in-Some-clause-capcodes
returns-in-Some-clause-capcodes g c =
    let before = twin_listener_of c.loop-page.self-inside.front (keys_of c.loop-page.self-inside.holders) c.loop-page.self-inside.holders c.loop-page.self-inside.pairing c.loop-page.self-inside.gathering in
    let after = twin_listener_of c.feed_piece-event.new.self (keys_of c.loop-page.self-inside.holders) c.loop-page.self-inside.holders c.join-joined.new.self c.meet.new.self in
    let met : TwinMet before after c.feed_piece-event.result c.join-joined.result (taken_of c.loop-page.piece c.feed_piece-event.new.piece) = record { capcodes = refl; goes = c.feed_piece-event.ensures.goes; joins = c.join-joined.ensures.joins; page = c.meet.ensures.page ∙ ap (λ (u : Option HeardPage). page_after (is_one_of before.capcodes) u c.join-joined.result) c.forget.ensures.page; ready = ap (λ (u : Option HeardPage). completed_by u c.join-joined.result) (sym c.forget.ensures.page) ∙ c.meet.ensures.ready } in
    let all = twin_fed_then _ _ _ _ _ _ _ c.loop-page.invariant.fed (twin_fed_met before after c.feed_piece-event.result c.join-joined.result c.loop-page.piece c.feed_piece-event.new.piece met refl c.feed_piece-event.ensures.whole) in
    all.capcodes

pub returns-in-Some-clause-holders : goal.returns-in-Some-clause-holders
returns-in-Some-clause-holders g c =
    let before = twin_listener_of c.loop-page.self-inside.front (keys_of c.loop-page.self-inside.holders) c.loop-page.self-inside.holders c.loop-page.self-inside.pairing c.loop-page.self-inside.gathering in
    let after = twin_listener_of c.feed_piece-event.new.self (keys_of c.loop-page.self-inside.holders) c.loop-page.self-inside.holders c.join-joined.new.self c.meet.new.self in
    let met : TwinMet before after c.feed_piece-event.result c.join-joined.result (taken_of c.loop-page.piece c.feed_piece-event.new.piece) = record { capcodes = refl; goes = c.feed_piece-event.ensures.goes; joins = c.join-joined.ensures.joins; page = c.meet.ensures.page ∙ ap (λ (u : Option HeardPage). page_after (is_one_of before.capcodes) u c.join-joined.result) c.forget.ensures.page; ready = ap (λ (u : Option HeardPage). completed_by u c.join-joined.result) (sym c.forget.ensures.page) ∙ c.meet.ensures.ready } in
    let all = twin_fed_then _ _ _ _ _ _ _ c.loop-page.invariant.fed (twin_fed_met before after c.feed_piece-event.result c.join-joined.result c.loop-page.piece c.feed_piece-event.new.piece met refl c.feed_piece-event.ensures.whole) in
    all.holders

pub returns-in-Some-clause-stands : goal.returns-in-Some-clause-stands
returns-in-Some-clause-stands g c =
    let before = twin_listener_of c.loop-page.self-inside.front (keys_of c.loop-page.self-inside.holders) c.loop-page.self-inside.holders c.loop-page.self-inside.pairing c.loop-page.self-inside.gathering in
    let after = twin_listener_of c.feed_piece-event.new.self (keys_of c.loop-page.self-inside.holders) c.loop-page.self-inside.holders c.join-joined.new.self c.meet.new.self in
    let met : TwinMet before after c.feed_piece-event.result c.join-joined.result (taken_of c.loop-page.piece c.feed_piece-event.new.piece) = record { capcodes = refl; goes = c.feed_piece-event.ensures.goes; joins = c.join-joined.ensures.joins; page = c.meet.ensures.page ∙ ap (λ (u : Option HeardPage). page_after (is_one_of before.capcodes) u c.join-joined.result) c.forget.ensures.page; ready = ap (λ (u : Option HeardPage). completed_by u c.join-joined.result) (sym c.forget.ensures.page) ∙ c.meet.ensures.ready } in
    let all = twin_fed_then _ _ _ _ _ _ _ c.loop-page.invariant.fed (twin_fed_met before after c.feed_piece-event.result c.join-joined.result c.loop-page.piece c.feed_piece-event.new.piece met refl c.feed_piece-event.ensures.whole) in
    all.stands

pub returns-in-Some-clause-page : goal.returns-in-Some-clause-page
returns-in-Some-clause-page g c =
    let before = twin_listener_of c.loop-page.self-inside.front (keys_of c.loop-page.self-inside.holders) c.loop-page.self-inside.holders c.loop-page.self-inside.pairing c.loop-page.self-inside.gathering in
    let after = twin_listener_of c.feed_piece-event.new.self (keys_of c.loop-page.self-inside.holders) c.loop-page.self-inside.holders c.join-joined.new.self c.meet.new.self in
    let met : TwinMet before after c.feed_piece-event.result c.join-joined.result (taken_of c.loop-page.piece c.feed_piece-event.new.piece) = record { capcodes = refl; goes = c.feed_piece-event.ensures.goes; joins = c.join-joined.ensures.joins; page = c.meet.ensures.page ∙ ap (λ (u : Option HeardPage). page_after (is_one_of before.capcodes) u c.join-joined.result) c.forget.ensures.page; ready = ap (λ (u : Option HeardPage). completed_by u c.join-joined.result) (sym c.forget.ensures.page) ∙ c.meet.ensures.ready } in
    let all = twin_fed_then _ _ _ _ _ _ _ c.loop-page.invariant.fed (twin_fed_met before after c.feed_piece-event.result c.join-joined.result c.loop-page.piece c.feed_piece-event.new.piece met refl c.feed_piece-event.ensures.whole) in
    all.page

pub returns-in-Some-clause-whole : goal.returns-in-Some-clause-whole
returns-in-Some-clause-whole g c =
    let before = twin_listener_of c.loop-page.self-inside.front (keys_of c.loop-page.self-inside.holders) c.loop-page.self-inside.holders c.loop-page.self-inside.pairing c.loop-page.self-inside.gathering in
    let after = twin_listener_of c.feed_piece-event.new.self (keys_of c.loop-page.self-inside.holders) c.loop-page.self-inside.holders c.join-joined.new.self c.meet.new.self in
    let met : TwinMet before after c.feed_piece-event.result c.join-joined.result (taken_of c.loop-page.piece c.feed_piece-event.new.piece) = record { capcodes = refl; goes = c.feed_piece-event.ensures.goes; joins = c.join-joined.ensures.joins; page = c.meet.ensures.page ∙ ap (λ (u : Option HeardPage). page_after (is_one_of before.capcodes) u c.join-joined.result) c.forget.ensures.page; ready = ap (λ (u : Option HeardPage). completed_by u c.join-joined.result) (sym c.forget.ensures.page) ∙ c.meet.ensures.ready } in
    let all = twin_fed_then _ _ _ _ _ _ _ c.loop-page.invariant.fed (twin_fed_met before after c.feed_piece-event.result c.join-joined.result c.loop-page.piece c.feed_piece-event.new.piece met refl c.feed_piece-event.ensures.whole) in
    all.whole

pub returns-in-Some-clause-last : goal.returns-in-Some-clause-last
returns-in-Some-clause-last g c = twin_last _ _ _ _ _ c.loop-page.invariant.fed c.loop-page.invariant.quiet c.feed_piece-event.ensures.whole c.feed_piece-event.ensures.last_goes

pub returns-in-Some-clause-some : goal.returns-in-Some-clause-some
returns-in-Some-clause-some g c = some_less _ _ _ c.loop-page.invariant.fed.whole c.feed_piece-event.ensures.whole c.feed_piece-event.ensures.some

pub returns-in-Some-clause-steps : goal.returns-in-Some-clause-steps
returns-in-Some-clause-steps g c =
    let before = twin_listener_of c.loop-page.self-inside.front (keys_of c.loop-page.self-inside.holders) c.loop-page.self-inside.holders c.loop-page.self-inside.pairing c.loop-page.self-inside.gathering in
    let after = twin_listener_of c.feed_piece-event.new.self (keys_of c.loop-page.self-inside.holders) c.loop-page.self-inside.holders c.join-joined.new.self c.meet.new.self in
    let met : TwinMet before after c.feed_piece-event.result c.join-joined.result (taken_of c.loop-page.piece c.feed_piece-event.new.piece) = record { capcodes = refl; goes = c.feed_piece-event.ensures.goes; joins = c.join-joined.ensures.joins; page = c.meet.ensures.page ∙ ap (λ (u : Option HeardPage). page_after (is_one_of before.capcodes) u c.join-joined.result) c.forget.ensures.page; ready = ap (λ (u : Option HeardPage). completed_by u c.join-joined.result) (sym c.forget.ensures.page) ∙ c.meet.ensures.ready } in
    let all = twin_fed_then _ _ _ _ _ _ _ c.loop-page.invariant.fed (twin_fed_met before after c.feed_piece-event.result c.join-joined.result c.loop-page.piece c.feed_piece-event.new.piece met refl c.feed_piece-event.ensures.whole) in
    twin_counts_then _ _ _ _ _ _ _ _ c.loop-page.invariant.fed c.feed_piece-event.ensures.whole c.loop-page.invariant.counts (λ bits h. twin_slots before.front after.front c.feed_piece-event.result c.join-joined.result before.paired after.paired (taken_of c.loop-page.piece c.feed_piece-event.new.piece) c.loop-page.steps c.meet.new.steps [] c.feed_piece-event.ensures.hears c.join-joined.ensures.joins c.meet.ensures.steps bits h.before h.words h.at)

pub returns-then-is_empty-clause-capcodes : goal.returns-then-is_empty-clause-capcodes
returns-then-is_empty-clause-capcodes g c =
    let before = twin_listener_of c.loop-page.self-inside.front (keys_of c.loop-page.self-inside.holders) c.loop-page.self-inside.holders c.loop-page.self-inside.pairing c.loop-page.self-inside.gathering in
    let after = twin_listener_of c.feed_piece-event.new.self (keys_of c.loop-page.self-inside.holders) c.loop-page.self-inside.holders c.join-joined.new.self c.meet.new.self in
    let met : TwinMet before after c.feed_piece-event.result c.join-joined.result (taken_of c.loop-page.piece c.feed_piece-event.new.piece) = record { capcodes = refl; goes = c.feed_piece-event.ensures.goes; joins = c.join-joined.ensures.joins; page = c.meet.ensures.page ∙ ap (λ (u : Option HeardPage). page_after (is_one_of before.capcodes) u c.join-joined.result) c.forget.ensures.page; ready = ap (λ (u : Option HeardPage). completed_by u c.join-joined.result) (sym c.forget.ensures.page) ∙ c.meet.ensures.ready } in
    let all = twin_fed_then _ _ _ _ _ _ _ c.loop-page.invariant.fed (twin_fed_met before after c.feed_piece-event.result c.join-joined.result c.loop-page.piece c.feed_piece-event.new.piece met refl c.feed_piece-event.ensures.whole) in
    all.capcodes

pub returns-then-is_empty-clause-holders : goal.returns-then-is_empty-clause-holders
returns-then-is_empty-clause-holders g c =
    let before = twin_listener_of c.loop-page.self-inside.front (keys_of c.loop-page.self-inside.holders) c.loop-page.self-inside.holders c.loop-page.self-inside.pairing c.loop-page.self-inside.gathering in
    let after = twin_listener_of c.feed_piece-event.new.self (keys_of c.loop-page.self-inside.holders) c.loop-page.self-inside.holders c.join-joined.new.self c.meet.new.self in
    let met : TwinMet before after c.feed_piece-event.result c.join-joined.result (taken_of c.loop-page.piece c.feed_piece-event.new.piece) = record { capcodes = refl; goes = c.feed_piece-event.ensures.goes; joins = c.join-joined.ensures.joins; page = c.meet.ensures.page ∙ ap (λ (u : Option HeardPage). page_after (is_one_of before.capcodes) u c.join-joined.result) c.forget.ensures.page; ready = ap (λ (u : Option HeardPage). completed_by u c.join-joined.result) (sym c.forget.ensures.page) ∙ c.meet.ensures.ready } in
    let all = twin_fed_then _ _ _ _ _ _ _ c.loop-page.invariant.fed (twin_fed_met before after c.feed_piece-event.result c.join-joined.result c.loop-page.piece c.feed_piece-event.new.piece met refl c.feed_piece-event.ensures.whole) in
    all.holders

pub returns-then-is_empty-clause-stands : goal.returns-then-is_empty-clause-stands
returns-then-is_empty-clause-stands g c =
    let before = twin_listener_of c.loop-page.self-inside.front (keys_of c.loop-page.self-inside.holders) c.loop-page.self-inside.holders c.loop-page.self-inside.pairing c.loop-page.self-inside.gathering in
    let after = twin_listener_of c.feed_piece-event.new.self (keys_of c.loop-page.self-inside.holders) c.loop-page.self-inside.holders c.join-joined.new.self c.meet.new.self in
    let met : TwinMet before after c.feed_piece-event.result c.join-joined.result (taken_of c.loop-page.piece c.feed_piece-event.new.piece) = record { capcodes = refl; goes = c.feed_piece-event.ensures.goes; joins = c.join-joined.ensures.joins; page = c.meet.ensures.page ∙ ap (λ (u : Option HeardPage). page_after (is_one_of before.capcodes) u c.join-joined.result) c.forget.ensures.page; ready = ap (λ (u : Option HeardPage). completed_by u c.join-joined.result) (sym c.forget.ensures.page) ∙ c.meet.ensures.ready } in
    let all = twin_fed_then _ _ _ _ _ _ _ c.loop-page.invariant.fed (twin_fed_met before after c.feed_piece-event.result c.join-joined.result c.loop-page.piece c.feed_piece-event.new.piece met refl c.feed_piece-event.ensures.whole) in
    all.stands

pub returns-then-is_empty-clause-page : goal.returns-then-is_empty-clause-page
returns-then-is_empty-clause-page g c =
    let before = twin_listener_of c.loop-page.self-inside.front (keys_of c.loop-page.self-inside.holders) c.loop-page.self-inside.holders c.loop-page.self-inside.pairing c.loop-page.self-inside.gathering in
    let after = twin_listener_of c.feed_piece-event.new.self (keys_of c.loop-page.self-inside.holders) c.loop-page.self-inside.holders c.join-joined.new.self c.meet.new.self in
    let met : TwinMet before after c.feed_piece-event.result c.join-joined.result (taken_of c.loop-page.piece c.feed_piece-event.new.piece) = record { capcodes = refl; goes = c.feed_piece-event.ensures.goes; joins = c.join-joined.ensures.joins; page = c.meet.ensures.page ∙ ap (λ (u : Option HeardPage). page_after (is_one_of before.capcodes) u c.join-joined.result) c.forget.ensures.page; ready = ap (λ (u : Option HeardPage). completed_by u c.join-joined.result) (sym c.forget.ensures.page) ∙ c.meet.ensures.ready } in
    let all = twin_fed_then _ _ _ _ _ _ _ c.loop-page.invariant.fed (twin_fed_met before after c.feed_piece-event.result c.join-joined.result c.loop-page.piece c.feed_piece-event.new.piece met refl c.feed_piece-event.ensures.whole) in
    all.page

pub returns-then-is_empty-clause-whole : goal.returns-then-is_empty-clause-whole
returns-then-is_empty-clause-whole g c =
    let before = twin_listener_of c.loop-page.self-inside.front (keys_of c.loop-page.self-inside.holders) c.loop-page.self-inside.holders c.loop-page.self-inside.pairing c.loop-page.self-inside.gathering in
    let after = twin_listener_of c.feed_piece-event.new.self (keys_of c.loop-page.self-inside.holders) c.loop-page.self-inside.holders c.join-joined.new.self c.meet.new.self in
    let met : TwinMet before after c.feed_piece-event.result c.join-joined.result (taken_of c.loop-page.piece c.feed_piece-event.new.piece) = record { capcodes = refl; goes = c.feed_piece-event.ensures.goes; joins = c.join-joined.ensures.joins; page = c.meet.ensures.page ∙ ap (λ (u : Option HeardPage). page_after (is_one_of before.capcodes) u c.join-joined.result) c.forget.ensures.page; ready = ap (λ (u : Option HeardPage). completed_by u c.join-joined.result) (sym c.forget.ensures.page) ∙ c.meet.ensures.ready } in
    let all = twin_fed_then _ _ _ _ _ _ _ c.loop-page.invariant.fed (twin_fed_met before after c.feed_piece-event.result c.join-joined.result c.loop-page.piece c.feed_piece-event.new.piece met refl c.feed_piece-event.ensures.whole) in
    all.whole

pub returns-then-is_empty-clause-last : goal.returns-then-is_empty-clause-last
returns-then-is_empty-clause-last g c = twin_last _ _ _ _ _ c.loop-page.invariant.fed c.loop-page.invariant.quiet c.feed_piece-event.ensures.whole c.feed_piece-event.ensures.last_goes

pub returns-then-is_empty-clause-steps : goal.returns-then-is_empty-clause-steps
returns-then-is_empty-clause-steps g c =
    let before = twin_listener_of c.loop-page.self-inside.front (keys_of c.loop-page.self-inside.holders) c.loop-page.self-inside.holders c.loop-page.self-inside.pairing c.loop-page.self-inside.gathering in
    let after = twin_listener_of c.feed_piece-event.new.self (keys_of c.loop-page.self-inside.holders) c.loop-page.self-inside.holders c.join-joined.new.self c.meet.new.self in
    let met : TwinMet before after c.feed_piece-event.result c.join-joined.result (taken_of c.loop-page.piece c.feed_piece-event.new.piece) = record { capcodes = refl; goes = c.feed_piece-event.ensures.goes; joins = c.join-joined.ensures.joins; page = c.meet.ensures.page ∙ ap (λ (u : Option HeardPage). page_after (is_one_of before.capcodes) u c.join-joined.result) c.forget.ensures.page; ready = ap (λ (u : Option HeardPage). completed_by u c.join-joined.result) (sym c.forget.ensures.page) ∙ c.meet.ensures.ready } in
    let all = twin_fed_then _ _ _ _ _ _ _ c.loop-page.invariant.fed (twin_fed_met before after c.feed_piece-event.result c.join-joined.result c.loop-page.piece c.feed_piece-event.new.piece met refl c.feed_piece-event.ensures.whole) in
    twin_counts_then _ _ _ _ _ _ _ _ c.loop-page.invariant.fed c.feed_piece-event.ensures.whole c.loop-page.invariant.counts (λ bits h. twin_slots before.front after.front c.feed_piece-event.result c.join-joined.result before.paired after.paired (taken_of c.loop-page.piece c.feed_piece-event.new.piece) c.loop-page.steps c.meet.new.steps [] c.feed_piece-event.ensures.hears c.join-joined.ensures.joins c.meet.ensures.steps bits h.before h.words h.at)

pub loop-page-init : goal.loop-page-init
loop-page-init g c = record {
  fed = subst (λ (l : TwinListener). TwinFed l (twin_listener_of c.self.inside.front (keys_of c.self.inside.holders) c.self.inside.holders c.self.inside.pairing c.self.inside.gathering) c.args.piece.now c.args.piece.now []) c.self.view_is (twin_fed_none (twin_listener_of c.self.inside.front (keys_of c.self.inside.holders) c.self.inside.holders c.self.inside.pairing c.self.inside.gathering) c.args.piece.now);
  quiet = quiet_none c.args.self.now c.args.piece.now;
  counts = twin_counts_none c.args.self.now c.args.steps.now c.args.piece.now;
}

pub loop-page-preserved : goal.loop-page-preserved
loop-page-preserved g c =
    let before = twin_listener_of c.loop-page.self-inside.front (keys_of c.loop-page.self-inside.holders) c.loop-page.self-inside.holders c.loop-page.self-inside.pairing c.loop-page.self-inside.gathering in
    let after = twin_listener_of c.feed_piece-event.new.self (keys_of c.loop-page.self-inside.holders) c.loop-page.self-inside.holders c.join-joined.new.self c.meet.new.self in
    let met : TwinMet before after c.feed_piece-event.result c.join-joined.result (taken_of c.loop-page.piece c.feed_piece-event.new.piece) = record { capcodes = refl; goes = c.feed_piece-event.ensures.goes; joins = c.join-joined.ensures.joins; page = c.meet.ensures.page ∙ ap (λ (u : Option HeardPage). page_after (is_one_of before.capcodes) u c.join-joined.result) c.forget.ensures.page; ready = ap (λ (u : Option HeardPage). completed_by u c.join-joined.result) (sym c.forget.ensures.page) ∙ c.meet.ensures.ready } in
    let all = twin_fed_then _ _ _ _ _ _ _ c.loop-page.invariant.fed (twin_fed_met before after c.feed_piece-event.result c.join-joined.result c.loop-page.piece c.feed_piece-event.new.piece met refl c.feed_piece-event.ensures.whole) in
    let nothing = none_ready c.meet.result c.meet.new.self.ready (search rules) c.meet.ensures.answer in
    let fed = subst (λ (pages : List HeardPage). TwinFed c.args.self.now after c.args.piece.now c.feed_piece-event.new.piece pages) nothing all in
    record {
      fed = fed;
      quiet = quiet_then _ _ _ _ _ _ c.loop-page.invariant.fed c.loop-page.invariant.quiet c.feed_piece-event.ensures.whole c.feed_piece-event.ensures.last_goes fed;
      counts = twin_counts_then _ _ _ _ _ _ _ _ c.loop-page.invariant.fed c.feed_piece-event.ensures.whole c.loop-page.invariant.counts (λ bits h. twin_slots before.front after.front c.feed_piece-event.result c.join-joined.result before.paired after.paired (taken_of c.loop-page.piece c.feed_piece-event.new.piece) c.loop-page.steps c.meet.new.steps [] c.feed_piece-event.ensures.hears c.join-joined.ensures.joins c.meet.ensures.steps bits h.before h.words h.at);
    }
