use Rattle.std.proofs.Common.{◌≡◌, ◌++◌, drop, length}
use Rattle.tap_entry.specs.Client.{all_are}
use Rattle.calling.proofs.outcome_lines.fill.Given as goal

-- what is still to be appended
abbrev pub invariant-loop : goal.invariant-loop
invariant-loop l = record {
  all : l.fn.done.items ++ all_are l.outcome (drop (length l.fn.done.items) l.pages.pages) ≡ l.done.items ++ all_are l.outcome (drop l.counter l.pages.pages);
  many : length l.done.items ≡ l.counter;
}
