use Rattle.scheduler.proofs.Schedules.{few_slots}
use Rattle.scheduler.proofs.laws.few_slots.Goals as goal

pub returns : goal.returns
returns c = few_slots
