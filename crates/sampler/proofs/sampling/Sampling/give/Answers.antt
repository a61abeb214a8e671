use Rattle.std.proofs.Common.{arith}
use Rattle.sampler.proofs.BitSamples.{parted}
use Rattle.sampler.proofs.sampling.Sampling.give.Goals as goal

pub returns-clause-gives : goal.returns-clause-gives
returns-clause-gives g c =
    let s = c.args.self.now in
    parted s.pending c.min-n.result s.value c.args.samples.now c.repeat.new.self (omega (arith, c.min-n.ensures, c.from.ensures)) c.repeat.ensures
