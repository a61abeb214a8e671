use Rattle.std.proofs.Common.{List, Option, [], subst}
use Rattle.subscribers.specs.Directory.{directory_of}
use Rattle.tap_terminal.specs.State.{Stands, unheard}
use Rattle.serving.proofs.entry.TerminalEntryLine.start.Goals as goal

pub returns : goal.returns
returns c = λ spare.
    subst (λ (password : Option (List _)). Stands password (directory_of c.args.settings.now) spare c.new.result [] unheard spare) c.password.ensures (c.new.ensures.stands (directory_of c.args.settings.now) spare)
