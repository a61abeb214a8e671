use Rattle.std.proofs.Common.{refl}
use Rattle.scheduler.proofs.Given.{gives-idle}
use Rattle.scheduler.proofs.sendings.Sending.choose.Goals as goal

pub returns-in_default-clause-gives : goal.returns-in_default-clause-gives
returns-in_default-clause-gives g c =
    gives-idle c.args.self.now c.pass.new.self c.args.pool.now _ c.requires.follows c.requires.between c.requires.more refl
    c.in_default.ensures.first c.pass.ensures.place c.pass.ensures.length c.pass.ensures.before
