use Rattle.std.proofs.Common.{◌≡◌, true, Some, take}
use Rattle.subscribers.specs.Entries.{all_differ, capcodes_of}
use Rattle.subscribers.proofs.members.members_from.Given as goal

-- the capcodes so far, which differ
abbrev pub invariant-loop-number : goal.invariant-loop-number
invariant-loop-number l = record {
  so_far : capcodes_of (take l.number-index l.numbers) ≡ Some l.members.items;
  differ : all_differ l.members.items ≡ true;
}
