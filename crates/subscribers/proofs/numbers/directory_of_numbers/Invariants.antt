use Rattle.std.proofs.Common.{◌≡◌, map, take}
use Rattle.std.specs.FinMap.{from_entries}
use Rattle.subscribers.specs.Made.{numbered}
use Rattle.subscribers.proofs.Digits.{AreSmall}
use Rattle.subscribers.proofs.numbers.directory_of_numbers.Given as goal

-- the map of the numbers so far
abbrev pub invariant-loop-number : goal.invariant-loop-number
invariant-loop-number l = record {
  mapped : l.directory ≡ from_entries (map numbered (take l.number-index l.numbers));
  small : AreSmall (take l.number-index l.numbers);
}
