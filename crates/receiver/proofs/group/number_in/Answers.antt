use Rattle.std.proofs.Common.{refl, sym, ◌∙◌, ap}
use Rattle.std.specs.List.{slice_get}
use Rattle.receiver.specs.Receivers.{numbers_from}
use Rattle.receiver.proofs.Numbers.{found, goes_past, goes_on, none_above, none_left}
use Rattle.receiver.proofs.group.number_in.Goals as goal
use Rattle.receiver.proofs.group.number_in.Goals.{then-set-n-eq1+else-before-eq0, else-set-n-eq1}

pub loop-n-init : goal.loop-n-init
loop-n-init c = refl

pub returns-then-set-n-eq0 : goal.returns-then-set-n-eq0
returns-then-set-n-eq0 c = none_above c.args.set c.loop-n.n c.loop-n.before _ c.if-set-n-eq0.true c.loop-n.invariant

pub returns-then-before-eq0 : goal.returns-then-before-eq0
returns-then-before-eq0 c = found c.args.set c.loop-n.n c.loop-n.before _ c.loop-n-test.true c.if-set-n-eq1.true c.if-before-eq0.true c.loop-n.invariant

pub loop-n-preserved : goal.loop-n-preserved
loop-n-preserved c =
    elim c.if-set-n-eq1.branch [
      | then-set-n-eq1+else-before-eq0 w ↦
          goes_past c.args.set c.loop-n.n c.loop-n.before _ c.loop-n-test.true w.if-set-n-eq1.true w.if-before-eq0.false c.loop-n.invariant
          ∙ ap (slice_get (numbers_from c.args.set _ _)) (sym w.before-is)
      | else-set-n-eq1 w ↦
          goes_on c.args.set c.loop-n.n c.loop-n.before _ c.loop-n-test.true w.if-set-n-eq1.false c.loop-n.invariant
          ∙ ap (slice_get (numbers_from c.args.set _ _)) (sym w.before-is)
    ]

pub returns : goal.returns
returns c = none_left c.args.set c.loop-n.n c.loop-n.before _ c.loop-n-test.false c.loop-n.invariant
