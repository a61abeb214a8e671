use Rattle.tap_block.proofs.PartsOf.{parts_are, parts_some}
use Rattle.tap_block.proofs.laws.parts.Goals as goal

pub returns : goal.returns
returns c content first second = (parts_are content first second, parts_some content first second)
