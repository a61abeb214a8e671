use Rattle.std.proofs.Common.{arith}
use Rattle.listening.proofs.NoisyHeard.{ended_gives, ends_gives, zeros_come}
use Rattle.listening.proofs.noise.noise_piece.Goals as goal

pub returns-then-ended-clause-gives : goal.returns-then-ended-clause-gives
returns-then-ended-clause-gives g c = ended_gives c.args.ended.now (g.N.BitSource.state c.args.noise.now) c.of.result c.args.most c.if-ended.true c.of.ensures

pub returns-then-ended-clause-some : goal.returns-then-ended-clause-some
returns-then-ended-clause-some g c = let e = (zeros_come c.of.result c.args.most c.of.ensures).0 in omega (arith, e, c.requires.some)

pub returns-then-ended-clause-few : goal.returns-then-ended-clause-few
returns-then-ended-clause-few g c = let e = (zeros_come c.of.result c.args.most c.of.ensures).0 in omega (arith, e)

pub returns-clause-gives : goal.returns-clause-gives
returns-clause-gives g c =
    ends_gives c.args.ended.now (g.N.BitSource.state c.args.noise.now) (g.N.BitSource.state c.piece.new.self) c.args.most c.in-Ok.piece c.of-2.result c.args.most
    c.if-ended.false c.in-Ok.ensures (c.is_empty.ensures.0 c.if-not-is_empty.false) c.of-2.ensures

pub returns-clause-some : goal.returns-clause-some
returns-clause-some g c = let e = (zeros_come c.of-2.result c.args.most c.of-2.ensures).0 in omega (arith, e, c.requires.some)

pub returns-clause-few : goal.returns-clause-few
returns-clause-few g c = let e = (zeros_come c.of-2.result c.args.most c.of-2.ensures).0 in omega (arith, e)
