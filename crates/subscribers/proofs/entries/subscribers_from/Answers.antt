use Rattle.std.proofs.Common.{◌≡◌, ◌+◌, [], get_or, map, Ok, is_some, sym, ap, inr, ◌∙◌}
use Rattle.std.proofs.lemmas.List.{take_all}
use Rattle.std.specs.FinMap.{get, insert}
use Rattle.subscribers.specs.Entries.{a_subscriber, ids_of, listed_all, subscriber_of}
use Rattle.subscribers.specs.Seen.{seen_entry, target_to}
use Rattle.subscribers.specs.declared.tables.Entry.{Entry as EntryRead}
use Rattle.subscribers.proofs.Turns.{when_ok, no_entry, turn-more, turn-fault, subscriber_number, subscribers_seen}
use Rattle.subscribers.proofs.entries.subscribers_from.Goals as goal

pub loop-k-init : goal.loop-k-init
unfolding listed_all
loop-k-init c = ap Ok (sym c.new-directory.ensures)

pub returns-in-Err : goal.returns-in-Err
returns-in-Err c =
    let xs = c.args.entries.now in
    let k = c.loop-k.k in
    let twice = c.is_some-twice.ensures ∙ ap is_some (c.find.ensures ∙ ap (get c.loop-k.directory) c.as_bytes-id.ensures.value) in
    inr (turn-fault (λ (x : EntryRead). a_subscriber (seen_entry x)) [] xs k no_entry c.loop-k-test.true (k + 1) c.loop-k.directory c.in-Err.fault
    (subscriber_number xs k (seen_entry (get_or xs k no_entry)) c.loop-k-test.true) c.loop-k.invariant
    (ap (λ t. subscriber_of (k + 1) t (seen_entry (get_or xs k no_entry))) (sym twice) ∙ c.in-Err.ensures.fault)
    ∙ ap ids_of (sym (subscribers_seen xs)))

pub loop-k-preserved : goal.loop-k-preserved
loop-k-preserved c =
    let xs = c.args.entries.now in
    let k = c.loop-k.k in
    let twice = c.is_some-twice.ensures ∙ ap is_some (c.find.ensures ∙ ap (get c.loop-k.directory) c.as_bytes-id.ensures.value) in
    let target = target_to c.in-Ok.subscriber in
    let added : c.insert.new.self ≡ insert c.loop-k.directory c.as_bytes-id.result.now target = when_ok _ _ c.if-is_err.ensures.value c.insert.ensures.ok in
    turn-more (λ (x : EntryRead). a_subscriber (seen_entry x)) [] xs k no_entry c.loop-k-test.true (k + 1) c.loop-k.directory target
    (subscriber_number xs k (seen_entry (get_or xs k no_entry)) c.loop-k-test.true) c.loop-k.invariant
    (ap (λ t. subscriber_of (k + 1) t (seen_entry (get_or xs k no_entry))) (sym twice) ∙ c.in-Ok.ensures.subscriber)
    ∙ ap Ok (sym (added ∙ ap (λ i. insert c.loop-k.directory i target) c.as_bytes-id.ensures.value))

pub returns : goal.returns
returns c =
    let xs = c.args.entries.now in
    inr (sym c.loop-k.invariant
    ∙ ap (λ l. ids_of (map (λ (x : EntryRead). a_subscriber (seen_entry x)) l)) (take_all c.loop-k.k xs c.loop-k-test.false)
    ∙ ap ids_of (sym (subscribers_seen xs)))
