use Rattle.wires.proofs.Below.{saying_puts}
use Rattle.wires.proofs.wire.SayingSink.put.Goals as goal

pub returns : goal.returns
returns g c = saying_puts _ _ _ _ _ c.say.ensures
