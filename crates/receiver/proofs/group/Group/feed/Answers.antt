use Rattle.std.proofs.Common.{ap, sym, subst, arith}
use Rattle.receiver.specs.Fronts.{FrontEnd, HasUnderWay}
use Rattle.receiver.specs.Listeners.{Listener, is_one_of}
use Rattle.receiver.proofs.group.Group.feed.Goals as goal

pub returns-clause-steps : goal.returns-clause-steps
returns-clause-steps g c bits here =
    let listens = is_one_of c.args.self.now.capcodes in
    let s = c.feed-event.ensures.hears listens c.args.self.now.under_way bits (subst (λ (f : FrontEnd). HasUnderWay listens f c.args.self.now.under_way bits) (ap (λ (l : Listener). l.front) (sym c.self.view_is)) here) in
    let n = s.slots in
    let t = c.meet.ensures.steps in
    omega arith
