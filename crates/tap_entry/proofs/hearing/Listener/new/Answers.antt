use Rattle.tap_entry.proofs.MarkReaders.{stands_nil}
use Rattle.tap_entry.proofs.hearing.Listener.new.Goals as goal

pub returns : goal.returns
returns c = rw c.new.ensures stands_nil
