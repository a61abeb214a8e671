use Rattle.std.proofs.Common.{refl}
use Rattle.subscribers.specs.Directory.{directory_of}
use Rattle.serving.proofs.entry.SnppEntryLine.start.Goals as goal

pub returns : goal.returns
returns c = λ spare. record { stands = c.begin.ensures (directory_of c.args._settings.now) spare; session_is = refl }
