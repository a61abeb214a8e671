use Rattle.receiver.proofs.Numbers.{holder_some, holder_none}
use Rattle.receiver.proofs.group.Holders.holder.Goals as goal

pub returns-in-Some : goal.returns-in-Some
returns-in-Some c =
    holder_some c.args.self.now c.self.inside.sets.entries c.number.result c.args.capcode c.in-Some.set.now c.args.k c.number_in.result c.self.view_is c.number.ensures.value c.in-Some.ensures.value
    c.number_in.ensures

pub returns-in-None : goal.returns-in-None
returns-in-None c =
    holder_none c.args.self.now c.self.inside.sets.entries c.number.result c.args.capcode c.args.k c.self.view_is c.number.ensures.value c.in-None.ensures.value
