use Rattle.std.proofs.Common.{arith}
use Rattle.calling.proofs.CallEnds.{fed_on, too_many}
use Rattle.calling.proofs.conversing.feed.Goals as goal

pub returns-then-left-eq0 : goal.returns-then-left-eq0
returns-then-left-eq0 g c = λ first heard ahead u. too_many _ _ _ _ _ _ _ _ _ _ u (omega arith) c.logon.ensures

pub returns : goal.returns
returns g c = λ first heard ahead u. fed_on _ _ _ _ _ _ _ _ _ _ u _ _ _ (omega arith) (c.take.ensures _ _ _ u.stands)
