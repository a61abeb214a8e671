use Rattle.std.proofs.Common.{inr, ap, ◌∙◌}
use Rattle.subscribers.proofs.Grouped.{members_of-some, members_of-most}
use Rattle.subscribers.proofs.Targets.{group_of-no_id, group_of-twice, group_of-no_members, group_of-no_class, group_of-all}
use Rattle.subscribers.specs.Entries.{members_of}
use Rattle.subscribers.proofs.entries.checked_group_from.Goals as goal

pub returns-then-not-is_id-clause-fault : goal.returns-then-not-is_id-clause-fault
returns-then-not-is_id-clause-fault c = inr (group_of-no_id _ _ _ c.if-not-is_id.ensures)

pub returns-then-twice-clause-fault : goal.returns-then-twice-clause-fault
returns-then-twice-clause-fault c = inr (group_of-twice _ _ _ c.if-not-is_id.ensures c.if-twice.true)

pub returns-in_default-members-clause-fault : goal.returns-in_default-members-clause-fault
returns-in_default-members-clause-fault c =
    inr (group_of-no_members _ _ _ c.if-not-is_id.ensures c.if-twice.false ((rw c.in_default-members.is at c.in-Ok.ensures) ∙ ap members_of c.deref.ensures.value))

pub returns-in_default-function_from-clause-fault : goal.returns-in_default-function_from-clause-fault
returns-in_default-function_from-clause-fault c =
    inr (group_of-no_class _ _ _ _ c.if-not-is_id.ensures c.if-twice.false ((rw c.in-Some.is at c.in-Ok.ensures) ∙ ap members_of c.deref.ensures.value) c.in_default-function_from.ensures)

pub returns-clause-group : goal.returns-clause-group
returns-clause-group c =
    group_of-all _ _ _ _ _ c.if-not-is_id.ensures c.if-twice.false ((rw c.in-Some.is at c.in-Ok.ensures) ∙ ap members_of c.deref.ensures.value) c.in-Some-function_from.ensures

pub returns-clause-some : goal.returns-clause-some
returns-clause-some c = members_of-some _ _ (rw c.in-Some.is at c.in-Ok.ensures)

pub returns-clause-most : goal.returns-clause-most
returns-clause-most c = members_of-most _ _ (rw c.in-Some.is at c.in-Ok.ensures)
