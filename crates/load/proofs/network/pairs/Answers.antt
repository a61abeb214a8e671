use Rattle.std.proofs.Common.{refl}
use Rattle.load.proofs.Members.{receivers-more}
use Rattle.load.proofs.network.pairs.Goals as goal

pub loop-i-preserved : goal.loop-i-preserved
loop-i-preserved c = receivers-more c.loop-i.i _ c.capcode_at.result c.loop-i.pairs.items c.push.new.self.items c.in_ok-push.ensures.items c.loop-i.invariant refl c.capcode_at.ensures
