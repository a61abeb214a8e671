use Rattle.std.proofs.Common.{◌≡◌, ◌+◌, take}
use Rattle.command_lines.specs.Pairs.{pairs_from}
use Rattle.command_lines.proofs.receivers.pairs_of.Given as goal

-- the receivers so far have their pairs
abbrev pub invariant-loop-capcodes : goal.invariant-loop-capcodes
invariant-loop-capcodes l = record {
  number : l.number ≡ l.capcodes-index + 1;
  pairs : l.pairs.items ≡ pairs_from 1 (take l.capcodes-index l.fn.receivers);
}
