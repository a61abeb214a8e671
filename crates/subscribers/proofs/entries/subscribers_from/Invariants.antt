use Rattle.std.proofs.Common.{◌≡◌, [], Ok}
use Rattle.subscribers.specs.Entries.{a_subscriber, ids_of}
use Rattle.subscribers.specs.Seen.{seen_entry}
use Rattle.subscribers.specs.declared.tables.Entry.{Entry as EntryRead}
use Rattle.subscribers.proofs.Turns.{so_far}
use Rattle.subscribers.proofs.entries.subscribers_from.Given as goal

-- the map of the entries so far
abbrev pub invariant-loop-k : goal.invariant-loop-k
invariant-loop-k l = ids_of (so_far (λ (x : EntryRead). a_subscriber (seen_entry x)) [] l.entries l.k) ≡ Ok l.directory
