use Rattle.std.proofs.Common.{◌≡◌, ◌+◌, ◌≤◌, Bool, List, ◌++◌, length}
use Rattle.bits.specs.Bits.{bits_of}
use Rattle.sampler.specs.Stacked.{bits_after}
use Rattle.sampler.proofs.Edges.{Marks}
use Rattle.sampler.proofs.counter.Counter.count.Given as goal

-- the bits so far come first, and those of the samples that are left follow
abbrev pub invariant-loop-edges : goal.invariant-loop-edges
invariant-loop-edges l = record {
  gives : (rest : List Bool) → bits_after l.fn.self.last l.fn.self.count (bits_of l.n l.samples ++ rest) ≡ l.bits ++ bits_after l.self.last l.self.count (bits_of l.left l.samples ++ rest);
  marks : Marks l.self.last l.left l.samples l.edges;
  few : length l.bits + l.left ≤ l.n;
  ready : l.self.ready ≡ l.fn.self.ready;
}

abbrev pub decreases-loop-edges : goal.decreases-loop-edges
decreases-loop-edges l = l.edges
