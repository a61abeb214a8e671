use Rattle.std.proofs.Common.{arith, take}
use Rattle.tap_block.proofs.Values.{fault_told, front_nil, told_on, value_told}
use Rattle.tap_block.proofs.escapes.unescape.Goals as goal

pub loop-rest-init : goal.loop-rest-init
loop-rest-init c = record { told = front_nil _; room = omega arith }

pub loop-rest-preserved : goal.loop-rest-preserved
loop-rest-preserved c = let b = c.in-Ok.ensures.behind in record {
  told = told_on c.loop-rest.into c.loop-rest.count c.in-Ok.first.0 c.loop-rest.rest.now c.in-Ok.first.1.now c.args.field.now (omega (arith, b)) c.in-Ok.ensures.value c.loop-rest.invariant.told;
  room = omega (arith, c.in-Ok.ensures.behind);
}

pub returns-in-Err-clause-value : goal.returns-in-Err-clause-value
returns-in-Err-clause-value c = fault_told (take c.loop-rest.count c.loop-rest.into) c.loop-rest.rest.now _ _ c.in-Err.ensures.value c.loop-rest.invariant.told

pub returns-clause-value : goal.returns-clause-value
returns-clause-value c = value_told (take c.loop-rest.count c.loop-rest.into) c.loop-rest.rest.now _ (grind arith) c.loop-rest.invariant.told
