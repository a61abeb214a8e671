use Rattle.scheduler.proofs.Schedules.{one_schedule}
use Rattle.scheduler.proofs.laws.one_schedule.Goals as goal

pub returns : goal.returns
returns c = one_schedule
