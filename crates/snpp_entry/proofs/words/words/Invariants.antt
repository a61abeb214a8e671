use Rattle.std.proofs.Common.{◌≡◌, ◌++◌, take, drop}
use Rattle.snpp_entry.specs.Lines.{verb, argument}
use Rattle.snpp_entry.proofs.words.words.Given as goal

abbrev pub invariant-loop-i : goal.invariant-loop-i
invariant-loop-i l = (verb l.line ≡ take l.i l.line ++ verb (drop l.i l.line)) × (argument l.line ≡ argument (drop l.i l.line))
