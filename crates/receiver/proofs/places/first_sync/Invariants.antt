use Rattle.receiver.specs.Places.{NoSyncBefore}
use Rattle.receiver.proofs.places.first_sync.Given as goal

abbrev pub invariant-loop-k : goal.invariant-loop-k
invariant-loop-k l = NoSyncBefore l.window l.count l.k
