use Rattle.sampler.proofs.BitSamples.{goes_on}
use Rattle.sampler.proofs.sampling.Sampling.go_on.Goals as goal

pub returns-clause-gives : goal.returns-clause-gives
returns-clause-gives g c = λ below.
    let s = c.args.self.now in
    let n = c.place.new.self in
    let p = c.place.ensures in
    goes_on s.value c.in-Bit.value n.value s.generator n.generator s.stray n.stray s.pending n.pending s.ahead n.ahead c.in-Some.after s.bits.ready n.bits.ready below c.requires c.in-Bit.is (rw p.bits c.in-Some.ensures.ready) s.within p.moved p.pending p.value p.ahead
