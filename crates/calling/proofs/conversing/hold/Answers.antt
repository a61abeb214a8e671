use Rattle.std.proofs.Common.{◌++◌, ◌<◌, take, length-append, arith}
use Rattle.std.proofs.lemmas.List.{length-take-le}
use Rattle.calling.proofs.CallEnds.{hear_failed, hears_more, silent, too_long}
use Rattle.calling.proofs.conversing.hold.Goals as goal

pub returns-in-Ok-eq0 : goal.returns-in-Ok-eq0
returns-in-Ok-eq0 g c = λ first u.
    let v = c.loop.invariant first u in
    silent _ _ _ _ _ _ _ _ _ _ _ v.1 (omega arith) c.in-Ok-eq0.ensures c.logon.ensures

pub returns-in-Err : goal.returns-in-Err
returns-in-Err g c = λ first u.
    let v = c.loop.invariant first u in
    hear_failed _ _ _ _ _ _ _ _ _ _ _ v.1 c.in-Err.ensures c.logon-in-Err.ensures

pub returns : goal.returns
returns g c = λ first u.
    let v = c.loop.invariant first u in
    too_long _ _ _ _ _ _ _ v.1 (omega (arith, v.2))

pub loop-preserved : goal.loop-preserved
loop-preserved g c = λ first u.
    let v = c.loop.invariant first u in
    let lt : 0 < c.in-Ok.n = omega arith in
    let w = hears_more _ _ _ _ _ _ _ _ _ _ v.1 lt c.in-Ok.ensures in (
      v.0 ++ take c.in-Ok.n c.hear.new.into,
      c.in-On.ensures first (v.0 ++ take c.in-Ok.n c.hear.new.into) w,
      omega (arith, v.2, lt, length-append v.0 (take c.in-Ok.n c.hear.new.into), length-take-le c.in-Ok.n c.hear.new.into c.in-Ok.ensures.within),
    )

pub returns-in-Ends : goal.returns-in-Ends
returns-in-Ends g c = λ first u.
    let v = c.loop.invariant first u in
    let lt : 0 < c.in-Ok.n = omega arith in
    let w = hears_more _ _ _ _ _ _ _ _ _ _ v.1 lt c.in-Ok.ensures in
    c.in-Ends.ensures first (v.0 ++ take c.in-Ok.n c.hear.new.into) w
