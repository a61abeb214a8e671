use Rattle.calling.proofs.PageArms.{leave_gone, leave_waits}
use Rattle.calling.proofs.stages.take_leaving.Goals as goal

pub returns-in-Wait : goal.returns-in-Wait
returns-in-Wait g c = λ x marks said h. let k = c.in-Wait.ensures x marks h.stands in leave_waits _ _ _ _ x _ marks said k.0 _ h k.1

pub returns-in-Gone : goal.returns-in-Gone
returns-in-Gone g c = λ x marks said h. let k = c.in-Gone.ensures x marks h.stands in leave_gone _ _ _ x _ marks said k.0 _ h k.1
