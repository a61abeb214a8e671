use Rattle.std.proofs.Common.{◌==◌}
use Rattle.std.proofs.lemmas.Bool.{and_left, and_right, ne_eqb}
use Rattle.load.proofs.Flipped.{no_bit}
use Rattle.load.proofs.noises.third.Goals as goal
use Rattle.load.proofs.noises.third.Goals.{else-is_slot-via-then-is_slot+else-c-eq0, else-is_slot-via-else-is_slot}

pub returns-else-is_slot : goal.returns-else-is_slot
returns-else-is_slot c = elim c.else-is_slot.branch [
  | else-is_slot-via-then-is_slot+else-c-eq0 w ↦ no_bit _ c.args.place (and_right c.args.is_slot (c.args.c == 0) (ne_eqb c.args.c 0 w.if-c-eq0.false))
  | else-is_slot-via-else-is_slot w ↦ no_bit _ c.args.place (and_left c.args.is_slot (c.args.c == 0) w.if-is_slot.false)
]
