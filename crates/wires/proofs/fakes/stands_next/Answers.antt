use Rattle.std.proofs.Common.{◌+◌, arith, sym}
use Rattle.wires.proofs.Calls.{none_above}
use Rattle.wires.proofs.fakes.stands_next.Goals as goal

pub returns-in-None : goal.returns-in-None
returns-in-None c = sym (none_above c.args.numbers.now (c.args.made + 1) (λ i. let n = c.type_inv.numbers i in omega (arith, n.fits, c.in-None.ensures)))
