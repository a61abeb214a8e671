use Rattle.std.proofs.Common.{◌≡◌, ◌++◌, take}
use Rattle.command_lines.specs.Pairs.{paired_with}
use Rattle.command_lines.proofs.receivers.push_pairs.Given as goal

-- the capcodes so far are paired with the number
abbrev pub invariant-loop-capcode : goal.invariant-loop-capcode
invariant-loop-capcode l = l.pairs.items ≡ l.fn.pairs.items ++ paired_with l.fn.number (take l.capcode-index l.fn.capcodes)
