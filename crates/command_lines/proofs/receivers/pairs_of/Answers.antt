use Rattle.std.proofs.Common.{List, ℕ, ◌++◌, arith, get_or, length, ◌∙◌, ap}
use Rattle.command_lines.specs.Pairs.{paired_with}
use Rattle.command_lines.proofs.Pairs.{between, pairs-all, pairs-turn}
use Rattle.command_lines.proofs.receivers.pairs_of.Goals as goal

pub loop-capcodes-preserved : goal.loop-capcodes-preserved
loop-capcodes-preserved c =
    let same = c.as_slice-capcodes-items.ensures.value in
    record {
      number = omega (arith, c.loop-capcodes.invariant.number);
      pairs = pairs-turn c.args.receivers.now c.loop-capcodes.pairs.items c.push_pairs.new.pairs.items c.loop-capcodes.capcodes-index c.loop-capcodes.number c.capcodes-item.result
          (omega (arith, ap length same)) (c.capcodes-item.is ∙ ap (λ (rs : List (List ℕ)). get_or rs c.loop-capcodes.capcodes-index c.capcodes-item.result) same)
          c.loop-capcodes.invariant.number c.loop-capcodes.invariant.pairs
          (c.in-Ok.ensures ∙ ap (λ (cs : List ℕ). c.loop-capcodes.pairs.items ++ paired_with c.loop-capcodes.number cs) c.as_slice.ensures.value);
    }

pub returns-clause-pairs : goal.returns-clause-pairs
returns-clause-pairs c =
    let same = c.as_slice-capcodes-items.ensures.value in
    pairs-all c.args.receivers.now c.loop-capcodes.pairs.items c.loop-capcodes.capcodes-index (omega (arith, ap length same)) c.loop-capcodes.invariant.pairs

pub returns-clause-numbers : goal.returns-clause-numbers
returns-clause-numbers c =
    let same = c.as_slice-capcodes-items.ensures.value in
    between c.args.receivers.now c.loop-capcodes.pairs.items
    (pairs-all c.args.receivers.now c.loop-capcodes.pairs.items c.loop-capcodes.capcodes-index (omega (arith, ap length same)) c.loop-capcodes.invariant.pairs)
    (omega (arith, ap length same, c.as_slice-capcodes-items.ensures.few))
