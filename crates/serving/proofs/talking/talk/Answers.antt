use Rattle.std.proofs.Common.{◌++◌, ◌<◌, take, length-append, arith}
use Rattle.std.proofs.lemmas.List.{length-take-le}
use Rattle.serving.proofs.Steps.{hears_more}
use Rattle.serving.proofs.Stops.{hear_failed, silent, too_long}
use Rattle.serving.proofs.talking.talk.Goals as goal

pub returns-in-Ok-eq0 : goal.returns-in-Ok-eq0
returns-in-Ok-eq0 g c = λ spare first before u.
    let v = c.loop.invariant spare first before u in
    silent _ _ _ _ _ _ _ _ _ _ _ _ v.1 (omega arith) c.in-Ok-eq0.ensures

pub returns-in-Err : goal.returns-in-Err
returns-in-Err g c = λ spare first before u.
    let v = c.loop.invariant spare first before u in
    hear_failed _ _ _ _ _ _ _ _ _ _ _ _ v.1 c.in-Err.ensures

pub returns : goal.returns
returns g c = λ spare first before u.
    let v = c.loop.invariant spare first before u in
    too_long _ _ _ _ _ _ _ _ _ v.1 (omega (arith, v.2))

pub loop-preserved : goal.loop-preserved
loop-preserved g c = λ spare first before u.
    let v = c.loop.invariant spare first before u in
    let lt : 0 < c.in-Ok.n = omega arith in
    let w = hears_more _ _ _ _ _ _ _ _ _ _ _ _ v.1 lt c.in-Ok.ensures in (
      v.0 ++ take c.in-Ok.n c.hear.new.into,
      c.in_default.ensures spare first before (v.0 ++ take c.in-Ok.n c.hear.new.into) w,
      omega (arith, v.2, lt, length-append v.0 (take c.in-Ok.n c.hear.new.into), length-take-le c.in-Ok.n c.hear.new.into c.in-Ok.ensures.within),
    )

pub returns-in-Some : goal.returns-in-Some
returns-in-Some g c = λ spare first before u.
    let v = c.loop.invariant spare first before u in
    let lt : 0 < c.in-Ok.n = omega arith in
    let w = hears_more _ _ _ _ _ _ _ _ _ _ _ _ v.1 lt c.in-Ok.ensures in
    c.in-Some.ensures spare first before (v.0 ++ take c.in-Ok.n c.hear.new.into) w
