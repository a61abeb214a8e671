use Rattle.std.proofs.Common.{map, sym, inl, inr, ⊎_elim}
use Rattle.subscribers.specs.Entries.{a_subscriber, a_group}
use Rattle.subscribers.specs.Seen.{seen_entries, seen_groups}
use Rattle.subscribers.proofs.Answered.{made_ids}
use Rattle.subscribers.proofs.Ids.{ids_of-faulty}
use Rattle.subscribers.proofs.entries.directory_from.Goals as goal

pub returns-in-Ok : goal.returns-in-Ok
returns-in-Ok c = c.with_groups.ensures (seen_entries c.args.entries.now) (sym (made_ids _ _ c.in-Ok.ensures))

pub returns-in-Err : goal.returns-in-Err
returns-in-Err c =
    ⊎_elim inl (λ e. inr (sym (ids_of-faulty (map a_subscriber (seen_entries c.args.entries.now)) (map a_group (seen_groups c.args.groups.now)) c.in-Err.fault (sym e)))) c.in-Err.ensures
