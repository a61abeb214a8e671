use Rattle.wires.proofs.Below.{file_puts}
use Rattle.wires.proofs.shelf.AppendingSink.put.Goals as goal

pub returns : goal.returns
returns g c = file_puts _ _ _ _ _ _ c.append.ensures
