use Rattle.std.proofs.Common.{◌≡◌, ◌-◌, ◌<◌, ◌≤◌, ◌++◌, Bool, List, length}
use Rattle.sampler.specs.Stacked.{samples_of}
use Rattle.sampler.proofs.sampling.Sampling.gather.Given as goal

-- the samples so far come first, and those that are left follow
abbrev pub invariant-loop-self : goal.invariant-loop-self
invariant-loop-self g l = record {
  gives : (below : List Bool) → samples_of l.fn.self.pending l.fn.self.value l.fn.self.generator l.fn.self.stray l.fn.self.ahead (l.fn.self.bits.ready ++ below)
      ≡ l.samples ++ samples_of l.self.pending l.self.value l.self.generator l.self.stray l.self.ahead (l.self.bits.ready ++ below);
  few : length l.samples ≤ l.asked;
  some : 0 < l.most → 0 < l.fn.self.pending → 0 < length l.samples;
  through : length l.samples < l.asked → l.self.pending ≡ 0;
  source : l.self.bits.source ≡ l.fn.self.bits.source;
}

abbrev pub decreases-loop-self : goal.decreases-loop-self
decreases-loop-self g l = l.asked - length l.samples
