use Rattle.serving.proofs.talking.converse.Goals as goal

pub returns-in-Some : goal.returns-in-Some
returns-in-Some g c = c.in-Some.ensures c.args.settings.now c.args.pool.now (c.start.ensures c.args.pool.now.spare)

pub returns : goal.returns
returns g c = c.talk.ensures c.args.pool.now.spare (g.W.Wire.state c.args.wire.now) c.args.pool.now (c.in_default.ensures c.args.settings.now c.args.pool.now (c.start.ensures c.args.pool.now.spare))
