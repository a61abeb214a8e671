use Rattle.std.proofs.Common.{◌≡◌, ◌-◌, ◌≤◌, ◌++◌, IsTrue, length, take}
use Rattle.bits.specs.Bits.{bytes_bits}
use Rattle.wires.specs.Stacked.{are_bytes}
use Rattle.line_writer.proofs.sample_bytes.fill.Given as goal

-- the first samples are the bits of the bytes so far
abbrev pub invariant-loop-at : goal.invariant-loop-at
invariant-loop-at g l = record {
  told : IsTrue (g.B.BitSource.state l.samples).tells;
  steady : IsTrue (g.B.BitSource.state l.samples).steady;
  takes : (g.B.BitSource.state l.fn.samples).left ≡ bytes_bits (take l.at l.into) ++ (g.B.BitSource.state l.samples).left;
  are : IsTrue (are_bytes (take l.at l.into));
  within : l.at ≤ length l.into;
  lent : (g.B.BitSource.state l.samples).lent ≡ (g.B.BitSource.state l.fn.samples).lent;
}

abbrev pub decreases-loop-at : goal.decreases-loop-at
decreases-loop-at g l = length l.into - l.at
