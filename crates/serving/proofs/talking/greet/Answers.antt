use Rattle.serving.proofs.Stops.{begins_silently, greeted, greeting_failed, is_none, is_some}
use Rattle.serving.proofs.talking.greet.Goals as goal

pub returns-then-is_empty : goal.returns-then-is_empty
returns-then-is_empty g c = λ settings pool s. begins_silently _ settings _ pool _ _ c.greeting-greeting.ensures (is_none _ _ c.if-is_empty.true c.is_empty.ensures) s

pub returns-in-Ok : goal.returns-in-Ok
returns-in-Ok g c = λ settings pool s. greeted _ settings _ _ pool _ _ _ c.greeting-greeting.ensures s c.in-Ok.ensures

pub returns-in-Err : goal.returns-in-Err
returns-in-Err g c = λ settings pool s. greeting_failed _ settings _ _ pool _ _ _ c.greeting-greeting.ensures (is_some _ _ c.if-is_empty.false c.is_empty.ensures) s c.in-Err.ensures
