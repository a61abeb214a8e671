use Rattle.std.proofs.Common.{SFits, w64, rules}
use Rattle.std.proofs.lemmas.Int.{to_z-of_z}
use Rattle.subscribers.proofs.Targets.{subscriber_of-no_id, subscriber_of-twice, subscriber_of-no_capcode, subscriber_of-no_class, subscriber_of-all}
use Rattle.subscribers.proofs.entries.subscriber_from.Goals as goal

pub returns-then-not-is_id-clause-fault : goal.returns-then-not-is_id-clause-fault
returns-then-not-is_id-clause-fault c = subscriber_of-no_id _ _ _ c.if-not-is_id.ensures

pub returns-then-twice-clause-fault : goal.returns-then-twice-clause-fault
returns-then-twice-clause-fault c = subscriber_of-twice _ _ _ c.if-not-is_id.ensures c.if-twice.true

pub returns-in_default-clause-fault : goal.returns-in_default-clause-fault
returns-in_default-clause-fault c =
    let fits : SFits w64 c.args.entry.now.capcode = search rules in
    subscriber_of-no_capcode _ _ _ c.if-not-is_id.ensures c.if-twice.false (rw (to_z-of_z w64 c.args.entry.now.capcode fits) at c.in_default.ensures)

pub returns-in_default-function_from-clause-fault : goal.returns-in_default-function_from-clause-fault
returns-in_default-function_from-clause-fault c =
    let fits : SFits w64 c.args.entry.now.capcode = search rules in
    subscriber_of-no_class _ _ _ _ c.if-not-is_id.ensures c.if-twice.false (rw (to_z-of_z w64 c.args.entry.now.capcode fits) at c.in-Some.ensures) c.in_default-function_from.ensures

pub returns-clause-subscriber : goal.returns-clause-subscriber
returns-clause-subscriber c =
    let fits : SFits w64 c.args.entry.now.capcode = search rules in
    subscriber_of-all _ _ _ _ _ c.if-not-is_id.ensures c.if-twice.false (rw (to_z-of_z w64 c.args.entry.now.capcode fits) at c.in-Some.ensures) c.in-Some-function_from.ensures
