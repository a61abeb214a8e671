use Rattle.std.proofs.Common.{[], ◌+◌, length}
use Rattle.wires.specs.Left.{Took}
use Rattle.sampler.specs.Stacked.{sampled_over}
use Rattle.sampler.proofs.progress.Progress.piece.Given as goal

-- the samples so far gave no bit
abbrev pub invariant-loop-self : goal.invariant-loop-self
invariant-loop-self g l =
    Took (sampled_over l.fn.self.counter l.fn.self.limit l.fn.self.further (g.B.BitSource.state l.fn.samples))
    (sampled_over l.self.counter l.self.limit l.self.further (g.B.BitSource.state l.samples))
    []

abbrev pub decreases-loop-self : goal.decreases-loop-self
decreases-loop-self g l = l.self.limit + length l.self.counter.ready
