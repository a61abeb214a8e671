use Rattle.std.proofs.Common.{◌≡◌, ◌+◌, ◌≤◌, take, length}
use Rattle.tap_block.specs.Fields.{read_field, front}
use Rattle.tap_block.proofs.escapes.unescape.Given as goal

abbrev pub invariant-loop-rest : goal.invariant-loop-rest
invariant-loop-rest l = record {
  told : front (take l.count l.into) (read_field l.rest) ≡ read_field l.fn.field;
  room : l.count + length l.rest ≤ length l.fn.field;
}

abbrev pub decreases-loop-rest : goal.decreases-loop-rest
decreases-loop-rest l = length l.rest
