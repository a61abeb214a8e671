use Rattle.std.proofs.Common.{◌-◌, arith}
use Rattle.receiver.proofs.places.first_sync.Goals as goal

pub returns-then-has_no_sync : goal.returns-then-has_no_sync
returns-then-has_no_sync c k lt = c.has_no_sync.ensures c.if-has_no_sync.true (c.args.count - 1 - k) (omega (arith, c.requires))
