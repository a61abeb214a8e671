use Rattle.std.proofs.Common.{◌≡◌, ◌+◌, ◌-◌, ◌*◌, ◌≤◌, drop, take}
use Rattle.page_text.specs.Texts.{group_bits, rising_number}
use Rattle.page_text.proofs.reader.code.Given as goal

-- the code so far is the number of the bits from i on
abbrev pub invariant-loop-i : goal.invariant-loop-i
invariant-loop-i l = record {
  within : l.i ≤ l.width;
  value : l.code ≡ rising_number (take (l.width - l.i) (drop (l.width * l.k + l.i) (group_bits l.groups)));
}

abbrev pub decreases-loop-i : goal.decreases-loop-i
decreases-loop-i l = l.i
