use Rattle.std.proofs.Common.{◌+◌, ◌++◌, get_or, refl}
use Rattle.tap_entry.specs.declared.outcomes.Outcome.TheVariants.{Sent}
use Rattle.wires.proofs.Written.{Puts-then}
use Rattle.calling.specs.OutcomeLines.{outcome_line}
use Rattle.calling.proofs.PutOutcomes.{line_fails, line_more}
use Rattle.calling.proofs.outcome_lines.put_outcomes.Goals as goal

pub loop-k-preserved : goal.loop-k-preserved
loop-k-preserved g c =
    let i = c.loop-k.invariant in
    let line = outcome_line (c.loop-k.k + 1) (get_or c.args.outcomes.now c.loop-k.k Sent) in (
      i.0 ++ line,
      Puts-then _ _ _ i.0 line _ _ i.1 c.in_default.ensures,
      line_more c.args.outcomes.now c.loop-k.k i.0 c.loop-k-test.true i.2,
    )

pub returns-in-Err : goal.returns-in-Err
returns-in-Err g c =
    let i = c.loop-k.invariant in
    line_fails c.args.outcomes.now c.loop-k.k i.0 _ _ _ _ _ _ c.loop-k-test.true i.2 refl i.1 c.in-Err.ensures
