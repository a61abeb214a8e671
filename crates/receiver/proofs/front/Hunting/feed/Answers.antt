use Rattle.std.proofs.Common.{sym, ◌∙◌, ap}
use Rattle.std.proofs.lemmas.Bool.{both_ways}
use Rattle.receiver.specs.Stretches.{is_sync}
use Rattle.receiver.proofs.Hunts.{Pushed, pushed_last, hunt_found, holds_nothing, hunt_still_full, hunt_still_short}
use Rattle.receiver.proofs.front.Hunting.feed.Goals as goal
use Rattle.receiver.proofs.front.Hunting.feed.Goals.{else-is_full-via-then-is_full+else-is_sync, else-is_full-via-else-is_full}

pub returns-then-is_sync : goal.returns-then-is_sync
returns-then-is_sync c = record {
  step = λ bits h.
      let p : Pushed c.push.new.self c.self.inside.register bits c.args.bit = record { kept-is = c.push.ensures; was-is = c.self.view_is ∙ h.last; none = h.none } in
      (hunt_found _ _ _ _ p (c.is_full.ensures.0 c.if-is_full.true) (sym (c.is_sync.ensures ∙ ap is_sync c.word.ensures) ∙ c.if-is_sync.true), rw c.new.ensures holds_nothing);
}

pub returns-else-is_full : goal.returns-else-is_full
returns-else-is_full c = record {
  step = λ bits h.
      let p : Pushed c.push.new.self c.self.inside.register bits c.args.bit = record { kept-is = c.push.ensures; was-is = c.self.view_is ∙ h.last; none = h.none } in
      record {
        last = pushed_last _ _ _ _ p;
        none = elim c.else-is_full.branch [
          | else-is_full-via-then-is_full+else-is_sync w ↦
              hunt_still_full _ _ _ _ p (c.is_full.ensures.0 w.if-is_full.true) (sym (w.is_sync.ensures ∙ ap is_sync w.word.ensures) ∙ w.if-is_sync.false)
          | else-is_full-via-else-is_full w ↦ hunt_still_short _ _ _ _ p (λ l. both_ways c.is_full.result w.if-is_full.false (c.is_full.ensures.1 l))
        ];
      };
}
