use Rattle.load.proofs.Members.{subscribers-more}
use Rattle.load.proofs.network.subscribers.Goals as goal

pub loop-i-preserved : goal.loop-i-preserved
loop-i-preserved c = subscribers-more c.loop-i.i c.id_at.result c.capcode_at.result c.function_at.result c.loop-i.ids.items c.push.new.self.items c.in_ok-push.ensures.items c.loop-i.invariant c.id_at.ensures c.capcode_at.ensures c.function_at.ensures
