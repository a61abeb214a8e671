use Rattle.std.proofs.Common.{length}
use Rattle.tap_entry.specs.Signs.{TextUpTo}
use Rattle.tap_entry.proofs.signs.text_line.Given as goal

abbrev pub invariant-loop-c : goal.invariant-loop-c
invariant-loop-c l = TextUpTo l.fn.x l.text.items l.rest

abbrev pub decreases-loop-c : goal.decreases-loop-c
decreases-loop-c l = length l.rest
