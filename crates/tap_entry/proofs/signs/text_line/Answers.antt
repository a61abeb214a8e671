use Rattle.std.proofs.Common.{◌≡◌, ◌≢◌, arith, subst, length}
use Rattle.page_text.specs.declared.limits.TheConstants.{LONGEST_TEXT}
use Rattle.tap_entry.specs.Signs.{TextUpTo}
use Rattle.tap_entry.proofs.Texts.{upto_more, text_ends, text_full, text_stops}
use Rattle.tap_entry.proofs.signs.text_line.Goals as goal

pub returns-then-len-eq-LONGEST_TEXT : goal.returns-then-len-eq-LONGEST_TEXT
returns-then-len-eq-LONGEST_TEXT c text behind h =
    let n : length c.loop-c.text.items ≡ LONGEST_TEXT = omega arith in
    text_full _ c.loop-c.text.items c.loop-c.rest.now c.in-Some.c c.in-Some.behind.now text behind c.loop-c.invariant c.in-Some.ensures.value n h

pub loop-c-preserved : goal.loop-c-preserved
loop-c-preserved c =
    let n : length c.loop-c.text.items ≢ LONGEST_TEXT = omega arith in
    rw c.push.ensures.items (upto_more _ c.loop-c.text.items c.loop-c.rest.now c.in-Some.c c.in-Some.behind.now c.loop-c.invariant c.in-Some.ensures.value n)

pub returns-in-Some-line_end : goal.returns-in-Some-line_end
returns-in-Some-line_end c =
    text_ends c.args.x.now c.loop-c.text.items c.in-Some-line_end.behind.now (subst (λ z. TextUpTo c.args.x.now c.loop-c.text.items z) c.in-Some-line_end.ensures c.loop-c.invariant)

pub returns-in-None-line_end : goal.returns-in-None-line_end
returns-in-None-line_end c text behind h = text_stops _ c.loop-c.text.items c.loop-c.rest.now text behind c.loop-c.invariant c.in-None.ensures.value c.in-None-line_end.ensures h
