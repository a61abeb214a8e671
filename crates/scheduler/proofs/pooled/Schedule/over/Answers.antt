use Rattle.scheduler.proofs.pooled.Schedule.over.Goals as goal

pub invariant_of-result : goal.invariant_of-result
invariant_of-result c = record { follows = c.begin-sending.ensures.follows c.args.pool.now }
