use Rattle.std.proofs.Common.{sym}
use Rattle.bch31.proofs.Apart.{distance_of-ones}
use Rattle.bch31.proofs.correction.distance.Goals as goal

pub returns : goal.returns
returns c = sym (distance_of-ones c.args.a c.args.b c.ranges.a.fits c.ranges.b.fits)
