use Rattle.std.proofs.Common.{sym, ◌∙◌, ap}
use Rattle.receiver.specs.Stretches.{is_sync}
use Rattle.receiver.proofs.Feeding.{short, hunts_short, hunts_full, finds_full, hunted_more, hunted_finds}
use Rattle.receiver.proofs.front.find_sync.Goals as goal
use Rattle.receiver.proofs.front.find_sync.Goals.{else-is_full-via-then-is_full+else-is_sync, else-is_full-via-else-is_full}

pub returns-then-is_sync : goal.returns-then-is_sync
returns-then-is_sync c =
    hunted_finds _ _ _ _ _ _ _ c.loop-bit.invariant c.in-Some.ensures
    (finds_full _ _ _ c.push.ensures (c.is_full.ensures.0 c.if-is_full.true) (sym (c.is_sync.ensures ∙ ap is_sync c.word.ensures) ∙ c.if-is_sync.true))

pub loop-bit-preserved : goal.loop-bit-preserved
loop-bit-preserved c =
    hunted_more _ _ _ _ _ _ _ c.loop-bit.invariant c.in-Some.ensures
    (elim c.else-is_full.branch [
      | else-is_full-via-then-is_full+else-is_sync w ↦
          hunts_full _ _ _ c.push.ensures (c.is_full.ensures.0 w.if-is_full.true) (sym (w.is_sync.ensures ∙ ap is_sync w.word.ensures) ∙ w.if-is_sync.false)
      | else-is_full-via-else-is_full w ↦ hunts_short _ _ _ c.push.ensures (short _ c.is_full.result w.if-is_full.false c.is_full.ensures.1)
    ])
