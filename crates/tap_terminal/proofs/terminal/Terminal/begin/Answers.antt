use Rattle.std.proofs.Common.{ℕ, [], List, Option, ap, sym, subst}
use Rattle.tap_terminal.specs.State.{TerminalState, Stands, unheard}
use Rattle.tap_terminal.proofs.terminal.Terminal.begin.Goals as goal

pub returns-clause-stands : goal.returns-clause-stands
returns-clause-stands c directory spare =
    subst (λ (t : TerminalState). Stands c.args.self.now.password directory spare t [] unheard spare) (sym c.self-2.view_is)
    (subst (λ (p : Option (List ℕ)). Stands p directory spare c.new.result [] unheard spare) (ap (λ (d : TerminalState). d.password) c.self.view_is) (c.new.ensures.stands directory spare))
