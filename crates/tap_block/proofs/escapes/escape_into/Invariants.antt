use Rattle.std.proofs.Common.{◌≡◌, ◌*◌, ◌≤◌, take}
use Rattle.tap_block.specs.Fields.{escaped}
use Rattle.tap_block.proofs.escapes.escape_into.Given as goal

abbrev pub invariant-loop-c : goal.invariant-loop-c
invariant-loop-c l = record {
  told : take l.count l.into ≡ escaped (take l.c-index l.value);
  room : l.count ≤ 2 * l.c-index;
}
