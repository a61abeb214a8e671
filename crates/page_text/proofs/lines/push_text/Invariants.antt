use Rattle.std.proofs.Common.{◌≡◌, ◌+◌, ◌*◌, ◌≤◌, ◌++◌, flat_map, length, take}
use Rattle.page_text.specs.Line.{escaped_byte}
use Rattle.page_text.proofs.lines.push_text.Given as goal

-- the bytes so far are appended
abbrev pub invariant-loop-c : goal.invariant-loop-c
invariant-loop-c g l = record {
  items : l.line.items ≡ l.initial.line.items ++ flat_map escaped_byte (take l.c-index l.text);
  few : length l.line.items ≤ length l.initial.line.items + 4 * l.c-index;
}
