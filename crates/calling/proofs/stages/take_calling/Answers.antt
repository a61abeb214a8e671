use Rattle.calling.proofs.Arms.{call_refused, call_says, call_waits, logon_leads}
use Rattle.calling.proofs.stages.take_calling.Goals as goal

pub returns-in-Wait : goal.returns-in-Wait
returns-in-Wait g c = λ x marks said h. let k = c.in-Wait.ensures x marks h.spoken h.stands in call_waits _ _ _ _ x _ marks said k.0 _ h k.1

pub returns-in-SayLogon : goal.returns-in-SayLogon
returns-in-SayLogon g c = λ x marks said h. let k = c.in-SayLogon.ensures x marks h.spoken h.stands in call_says _ _ _ _ x _ marks said k.0 _ _ _ h k.1 c.say_logon.ensures

pub returns-in-Go : goal.returns-in-Go
returns-in-Go g c = λ x marks said h. let k = c.in-Go.ensures x marks h.spoken h.stands in c.begin.ensures _ _ said k.1.0 (logon_leads _ _ _ _ x _ marks said k.0 h k.1)

pub returns-in-Refused : goal.returns-in-Refused
returns-in-Refused g c = λ x marks said h. let k = c.in-Refused.ensures x marks h.spoken h.stands in call_refused _ _ _ x _ marks said k.0 _ h k.1
