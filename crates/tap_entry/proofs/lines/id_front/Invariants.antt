use Rattle.std.proofs.Common.{take}
use Rattle.std.specs.List.{AllByRecursion}
use Rattle.tap_entry.specs.Signs.{IsDigit}
use Rattle.tap_entry.proofs.lines.id_front.Given as goal

abbrev pub invariant-loop-i : goal.invariant-loop-i
invariant-loop-i l = AllByRecursion IsDigit (take l.i l.x)
