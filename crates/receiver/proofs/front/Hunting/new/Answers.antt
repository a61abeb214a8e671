use Rattle.std.proofs.Common.{refl}
use Rattle.receiver.specs.Stretches.{after_sync}
use Rattle.receiver.proofs.front.Hunting.new.Goals as goal

pub returns : goal.returns
unfolding after_sync
returns c = record { last = c.new.ensures; none = refl }
