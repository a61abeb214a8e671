use Rattle.std.proofs.Common.{false, true, arith, inr, refl, sym}
use Rattle.serving.proofs.Servings.{at_append_fault, at_done, at_out_fault, at_wire_fault, closes_here, last_state, one_more, opened_so, ran_here}
use Rattle.serving.proofs.serving.serve_next.Goals as goal

pub returns-in-Ok-false-clause-further : goal.returns-in-Ok-false-clause-further
returns-in-Ok-false-clause-further g c = λ spare most first begun address ss so d n few.
    record {
      served = at_done _ _ _ _ _ _ _ _ _ _ _ _ ss so (omega (arith, n, few)) (opened_so _ _ _ false c.in-Ok-false.field-0-test c.in-Ok-false.ensures);
      leaves = record { no_page = so.no_page; last = d };
    }

pub returns-in-Err-clause-further : goal.returns-in-Err-clause-further
returns-in-Err-clause-further g c = λ spare most first begun address ss so d n few.
    record {
      served = at_wire_fault _ _ _ _ _ _ _ _ _ _ _ _ _ ss so (omega (arith, n, few)) c.in-Err.ensures;
      leaves = record { no_page = so.no_page; last = d };
    }

pub returns-in-Err-send-clause-further : goal.returns-in-Err-send-clause-further
returns-in-Err-send-clause-further g c = λ spare most first begun address ss so d n few.
    let opened = opened_so _ _ _ true c.in-Ok-true.field-0-test c.in-Ok-true.ensures in
    let ran = ran_here _ _ spare _ _ c.args.pool.now _ _ _ so.all_spare c.session_on-end.ensures.ran in
    let closes = closes_here _ _ spare _ _ c.args.pool.now so.all_spare c.session_on-end.ensures.closes in
    record {
      served = inr (at_append_fault _ _ _ _ _ _ _ _ _ _ _ _ _ _ _ _ _ _ _ ss so (omega (arith, n, few)) opened ran closes c.in-Err-send.ensures);
      leaves = refl;
    }

pub returns-in-Err-put_line-clause-further : goal.returns-in-Err-put_line-clause-further
returns-in-Err-put_line-clause-further g c = λ spare most first begun address ss so d n few.
    let opened = opened_so _ _ _ true c.in-Ok-true.field-0-test c.in-Ok-true.ensures in
    let ran = ran_here _ _ spare _ _ c.args.pool.now _ _ _ so.all_spare c.session_on-end.ensures.ran in
    let closes = closes_here _ _ spare _ _ c.args.pool.now so.all_spare c.session_on-end.ensures.closes in
    let served = at_out_fault _ _ _ _ _ _ _ _ _ _ _ _ _ _ _ _ _ _ _ _ _ _ ss so n few opened ran closes c.in_default.ensures (c.put_line.ensures.few _ _ _ _ _ ran.stands) (c.in-Err-put_line.ensures.puts _ _ _ _ _ ran.stands) in
    record { served = served; leaves = record { no_page = c.in_default.ensures.emptied; last = sym (last_state begun ss served.unreported) } }

pub returns-clause-further : goal.returns-clause-further
returns-clause-further g c = λ spare most first begun address ss so d n few.
    let opened = opened_so _ _ _ true c.in-Ok-true.field-0-test c.in-Ok-true.ensures in
    let ran = ran_here _ _ spare _ _ c.args.pool.now _ _ _ so.all_spare c.session_on-end.ensures.ran in
    let closes = closes_here _ _ spare _ _ c.args.pool.now so.all_spare c.session_on-end.ensures.closes in
    one_more _ _ _ _ _ _ _ _ _ _ _ _ _ _ _ _ _ _ _ _ _ _ begun ss so n few opened ran closes c.in_default.ensures (c.put_line.ensures.few _ _ _ _ _ ran.stands) (c.in_default-put_line.ensures.puts _ _ _ _ _ ran.stands)
