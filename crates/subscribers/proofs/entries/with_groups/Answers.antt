use Rattle.std.proofs.Common.{◌≡◌, ◌+◌, ◌++◌, get_or, map, Ok, Err, is_some, append-nil, sym, ap, inl, inr, ⊎_elim, ◌∙◌}
use Rattle.std.proofs.lemmas.List.{take_all}
use Rattle.std.specs.FinMap.{get, insert}
use Rattle.subscribers.specs.Entries.{a_subscriber, a_group, ids_of, group_of}
use Rattle.subscribers.specs.Seen.{seen_group, target_of_group}
use Rattle.subscribers.specs.declared.tables.GroupTable.{GroupTable}
use Rattle.subscribers.proofs.Turns.{when_ok, turn-more, turn-fault, group_number, groups_seen}
use Rattle.subscribers.proofs.entries.with_groups.Goals as goal

pub loop-k-init : goal.loop-k-init
loop-k-init c es h = ap ids_of (append-nil (map a_subscriber es)) ∙ h

pub returns-in-Err : goal.returns-in-Err
returns-in-Err c es h =
    let xs = c.args.groups.now in
    let k = c.loop-k.k in
    let x = c.index-groups-k.result in
    let twice = c.is_some-twice.ensures ∙ ap is_some (c.find.ensures ∙ ap (get c.loop-k.directory) (c.as_bytes-id.ensures.value ∙ ap (λ (g : GroupTable). g.id.now) c.index-groups-k.is)) in
    ⊎_elim (λ m. inl (ap Err m)) (λ e. inr (turn-fault (λ (x : GroupTable). a_group (seen_group x)) (map a_subscriber es) xs k x c.loop-k-test.true (k + 1) c.loop-k.directory c.in-Err.fault
    (group_number es xs k (seen_group (get_or xs k x)) c.loop-k-test.true) (c.loop-k.invariant es h)
    (ap (λ t. group_of (k + 1) t (seen_group (get_or xs k x))) (sym twice) ∙ ap (λ (g : GroupTable). group_of (k + 1) c.is_some-twice.result (seen_group g)) (sym c.index-groups-k.is) ∙ e)
    ∙ ap (λ l. ids_of (map a_subscriber es ++ l)) (sym (groups_seen xs)))) c.in-Err.ensures.fault

pub loop-k-preserved : goal.loop-k-preserved
loop-k-preserved c es h =
    let xs = c.args.groups.now in
    let k = c.loop-k.k in
    let x = c.index-groups-k.result in
    let id_is = c.as_bytes-id.ensures.value ∙ ap (λ (g : GroupTable). g.id.now) c.index-groups-k.is in
    let twice = c.is_some-twice.ensures ∙ ap is_some (c.find.ensures ∙ ap (get c.loop-k.directory) id_is) in
    let target = target_of_group c.in-Ok.checked in
    let added : c.insert.new.self ≡ insert c.loop-k.directory c.as_bytes-id.result.now (record { function = target.function; capcodes = c.deref.result.now }) = when_ok _ _ c.if-is_err.ensures.value c.insert.ensures.ok in
    turn-more (λ (x : GroupTable). a_group (seen_group x)) (map a_subscriber es) xs k x c.loop-k-test.true (k + 1) c.loop-k.directory target
    (group_number es xs k (seen_group (get_or xs k x)) c.loop-k-test.true) (c.loop-k.invariant es h)
    (ap (λ t. group_of (k + 1) t (seen_group (get_or xs k x))) (sym twice) ∙ ap (λ (g : GroupTable). group_of (k + 1) c.is_some-twice.result (seen_group g)) (sym c.index-groups-k.is) ∙ c.in-Ok.ensures.group)
    ∙ ap Ok (sym (added ∙ ap (λ i. insert c.loop-k.directory i (record { function = target.function; capcodes = c.deref.result.now })) id_is ∙ ap (λ l. insert c.loop-k.directory (get_or xs k x).id.now (record { function = target.function; capcodes = l })) c.deref.ensures.value))

pub returns : goal.returns
returns c es h =
    let xs = c.args.groups.now in
    inr (sym (c.loop-k.invariant es h)
    ∙ ap (λ l. ids_of (map a_subscriber es ++ map (λ (x : GroupTable). a_group (seen_group x)) l)) (take_all c.loop-k.k xs c.loop-k-test.false)
    ∙ ap (λ l. ids_of (map a_subscriber es ++ l)) (sym (groups_seen xs)))
