use Rattle.std.proofs.Common.{◌≡◌, List, map, Ok}
use Rattle.subscribers.specs.Entries.{a_subscriber, a_group, ids_of}
use Rattle.subscribers.specs.Form.{SubscriberEntry}
use Rattle.subscribers.specs.Seen.{seen_group}
use Rattle.subscribers.specs.declared.tables.GroupTable.{GroupTable}
use Rattle.subscribers.proofs.Turns.{so_far}
use Rattle.subscribers.proofs.entries.with_groups.Given as goal

-- the map of the subscribers and of the groups so far
abbrev pub invariant-loop-k : goal.invariant-loop-k
invariant-loop-k l = (es : List SubscriberEntry) → ids_of (map a_subscriber es) ≡ Ok l.fn.subscribers → ids_of (so_far (λ (x : GroupTable). a_group (seen_group x)) (map a_subscriber es) l.groups l.k) ≡ Ok l.directory
