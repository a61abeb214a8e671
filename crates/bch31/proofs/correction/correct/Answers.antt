use Rattle.std.proofs.Common.{◌∙◌, ap, slice_index}
use Rattle.bch31.specs.declared.patterns.TheConstants.{PATTERNS}
use Rattle.bch31.proofs.Fixes.{repaired_word, answer_near, answer_far, answer_some, answer_none}
use Rattle.bch31.proofs.correction.correct.Goals as goal

pub returns-then-distance-le-REPAIRED-clause-value : goal.returns-then-distance-le-REPAIRED-clause-value
returns-then-distance-le-REPAIRED-clause-value c =
    answer_near c.args.w _ (repaired_word c.args.w c.pattern.result c.ranges.w.fits (c.pattern.ensures ∙ ap (slice_index PATTERNS) c.remainder.ensures.value))
    (rw (← c.distance.ensures) c.if-distance-le-REPAIRED.true)

pub returns-else-distance-le-REPAIRED-clause-value : goal.returns-else-distance-le-REPAIRED-clause-value
returns-else-distance-le-REPAIRED-clause-value c =
    answer_far c.args.w _ (repaired_word c.args.w c.pattern.result c.ranges.w.fits (c.pattern.ensures ∙ ap (slice_index PATTERNS) c.remainder.ensures.value))
    (rw (← c.distance.ensures) c.if-distance-le-REPAIRED.false)

pub returns-then-distance-le-REPAIRED-clause-some : goal.returns-then-distance-le-REPAIRED-clause-some
returns-then-distance-le-REPAIRED-clause-some c = answer_some c.args.w _ c.ranges.w.fits (returns-then-distance-le-REPAIRED-clause-value c)

pub returns-else-distance-le-REPAIRED-clause-some : goal.returns-else-distance-le-REPAIRED-clause-some
returns-else-distance-le-REPAIRED-clause-some c = answer_some c.args.w _ c.ranges.w.fits (returns-else-distance-le-REPAIRED-clause-value c)

pub returns-then-distance-le-REPAIRED-clause-none : goal.returns-then-distance-le-REPAIRED-clause-none
returns-then-distance-le-REPAIRED-clause-none c = answer_none c.args.w _ c.ranges.w.fits (returns-then-distance-le-REPAIRED-clause-value c)

pub returns-else-distance-le-REPAIRED-clause-none : goal.returns-else-distance-le-REPAIRED-clause-none
returns-else-distance-le-REPAIRED-clause-none c = answer_none c.args.w _ c.ranges.w.fits (returns-else-distance-le-REPAIRED-clause-value c)
