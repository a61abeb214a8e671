use Rattle.air.specs.Air.{preamble}
use Rattle.air.proofs.sender.send_preamble.Goals as goal

pub returns : goal.returns
unfolding preamble
returns g c = c.words.ensures
