use Rattle.std.proofs.Common.{List, Option, [], subst}
use Rattle.subscribers.specs.Directory.{directory_of}
use Rattle.tap_terminal.specs.State.{Stands, unheard}
use Rattle.serving.proofs.session.Station.new.Goals as goal

pub returns-clause-unheard : goal.returns-clause-unheard
returns-clause-unheard c = λ spare.
    subst (λ (p : Option (List _)). Stands p (directory_of c.args.settings) spare c.new-terminal.result [] unheard spare) c.password.ensures (c.new-terminal.ensures.stands (directory_of c.args.settings) spare)
