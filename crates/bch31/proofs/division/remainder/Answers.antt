use Rattle.bch31.proofs.Remainders.{remainder-lt}
use Rattle.bch31.proofs.Parts.{divided}
use Rattle.bch31.proofs.division.remainder.Goals as goal

pub returns-clause-value : goal.returns-clause-value
returns-clause-value c = rw (c.low_remainder-low.ensures, c.middle_remainder-middle.ensures, c.high_remainder-high.ensures) (divided c.args.bits c.requires)

pub returns-clause-small : goal.returns-clause-small
returns-clause-small c = rw (returns-clause-value c) (remainder-lt 31 c.args.bits)
