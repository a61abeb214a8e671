use Rattle.serving.proofs.Steps.{goes, quiet}
use Rattle.serving.proofs.Stops.{ended, is_none, is_some, lost}
use Rattle.serving.proofs.talking.take.Goals as goal

pub returns-then-is_empty : goal.returns-then-is_empty
returns-then-is_empty g c = λ spare first before heard ahead u.
    quiet _ _ _ _ _ _ _ _ _ _ _ _ _ _ _ u (c.respond-response.ensures spare _ u.session u.stands u.no_end) (is_none _ _ c.if-is_empty.true c.is_empty.ensures)

pub returns-in-Some : goal.returns-in-Some
returns-in-Some g c = λ spare first before heard ahead u.
    ended _ _ _ _ _ _ _ _ _ _ _ _ _ _ _ _ _ _ u (c.respond-response.ensures spare _ u.session u.stands u.no_end) (is_some _ _ c.if-is_empty.false c.is_empty.ensures) c.in-Some.is c.say-said.ensures

pub returns-in-Ok : goal.returns-in-Ok
returns-in-Ok g c = λ spare first before heard ahead u.
    goes _ _ _ _ _ _ _ _ _ _ _ _ _ _ _ _ _ u (c.respond-response.ensures spare _ u.session u.stands u.no_end) c.in-None.is c.in-Ok.ensures

pub returns-in-Err : goal.returns-in-Err
returns-in-Err g c = λ spare first before heard ahead u.
    lost _ _ _ _ _ _ _ _ _ _ _ _ _ _ _ _ _ u (c.respond-response.ensures spare _ u.session u.stands u.no_end) (is_some _ _ c.if-is_empty.false c.is_empty.ensures) c.in-None.is c.in-Err.ensures
