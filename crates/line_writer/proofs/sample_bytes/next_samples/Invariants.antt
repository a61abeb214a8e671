use Rattle.std.proofs.Common.{◌≡◌, ◌-◌, ◌≤◌, IsTrue}
use Rattle.line_writer.proofs.SampleBytes.{GatheredSo}
use Rattle.line_writer.proofs.sample_bytes.next_samples.Given as goal

-- the first samples are the bits of the number so far
abbrev pub invariant-loop-count : goal.invariant-loop-count
invariant-loop-count g l = record {
  told : IsTrue (g.B.BitSource.state l.samples).tells;
  steady : IsTrue (g.B.BitSource.state l.samples).steady;
  so_far : GatheredSo (g.B.BitSource.state l.fn.samples).left (g.B.BitSource.state l.samples).left l.count l.number;
  few : l.count ≤ l.asked;
  lent : (g.B.BitSource.state l.samples).lent ≡ (g.B.BitSource.state l.fn.samples).lent;
}

abbrev pub decreases-loop-count : goal.decreases-loop-count
decreases-loop-count g l = l.asked - l.count
