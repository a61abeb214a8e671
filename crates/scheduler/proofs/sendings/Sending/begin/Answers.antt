use Rattle.scheduler.proofs.Ended.{begins_empty, begins_slots, begins_stands}
use Rattle.scheduler.proofs.sendings.Sending.begin.Goals as goal

pub returns-clause-none : goal.returns-clause-none
returns-clause-none c = begins_empty

pub returns-clause-slots : goal.returns-clause-slots
returns-clause-slots c = begins_slots

pub returns-clause-stands : goal.returns-clause-stands
returns-clause-stands c = begins_stands
