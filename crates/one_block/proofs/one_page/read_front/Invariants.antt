use Rattle.std.proofs.Common.{◌≤◌, ◌-◌, length, take}
use Rattle.wires.specs.Left.{Took}
use Rattle.one_block.proofs.one_page.read_front.Given as goal

abbrev pub invariant-loop-count : goal.invariant-loop-count
invariant-loop-count g l = record {
  taken : Took (g.I.Source.state l.initial.input) (g.I.Source.state l.input) (take l.count l.into);
  within : l.count ≤ length l.into;
}

abbrev pub decreases-loop-count : goal.decreases-loop-count
decreases-loop-count g l = length l.into - l.count
