use Rattle.calling.proofs.PageArms.{page_closed, page_leads, room_for, send_says, send_waits}
use Rattle.calling.proofs.stages.take_sending.Goals as goal

pub returns-in-Wait : goal.returns-in-Wait
returns-in-Wait g c = λ x marks said h. let k = c.in-Wait.ensures x h.past h.since h.stands in send_waits _ _ _ _ x _ marks said k.0 _ h k.1

pub returns-in-Again : goal.returns-in-Again
returns-in-Again g c = λ x marks said h. let k = c.in-Again.ensures x h.past h.since h.stands in send_says _ _ _ _ x _ marks said k.0 _ _ _ h (k.1.0, k.1.1, k.1.2) c.say_block.ensures

pub returns-in-NextBlock : goal.returns-in-NextBlock
returns-in-NextBlock g c = λ x marks said h. let k = c.in-NextBlock.ensures x h.past h.since h.stands in send_says _ _ _ _ x _ marks said k.0 _ _ _ h (k.1.0, k.1.1, k.1.2) c.say_block-in-NextBlock.ensures

pub returns-in-Done : goal.returns-in-Done
returns-in-Done g c = λ x marks said h.
    let k = c.in-Done.ensures x h.past h.since h.stands in
    c.begin.ensures _ _ said k.1.0 (page_leads _ _ _ _ _ x _ marks said k.0 _ h k.1 (c.note.ensures (room_for c.args.pages.now c.args.done.now.items h.page h.left h.between.few h.between.left_is)))

pub returns-in-Closed : goal.returns-in-Closed
returns-in-Closed g c = λ x marks said h.
    let k = c.in-Closed.ensures x h.past h.since h.stands in
    page_closed _ _ _ _ x _ marks said k.0 _ _ _ _ h k.1.0 k.1.1 k.1.2 (c.note-in-Closed.ensures (room_for c.args.pages.now c.args.done.now.items h.page h.left h.between.few h.between.left_is)) c.close.ensures.spent c.close.ensures.other
