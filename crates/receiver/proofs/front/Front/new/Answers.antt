use Rattle.std.proofs.Common.{List, Bool, [], sym, subst}
use Rattle.receiver.specs.Locks.{Hunts}
use Rattle.receiver.proofs.Hunts.{hunts_nothing}
use Rattle.receiver.proofs.Fronts.{starts, starts_at, starts_without_page}
use Rattle.receiver.proofs.front.Front.new.Goals as goal

pub returns-clause-stands : goal.returns-clause-stands
returns-clause-stands c = starts c.new.result (subst (λ (xs : List Bool). Hunts xs []) (sym c.new.ensures) hunts_nothing)

pub returns-clause-page : goal.returns-clause-page
returns-clause-page c listens = starts_without_page listens c.new.result (subst (λ (xs : List Bool). Hunts xs []) (sym c.new.ensures) hunts_nothing)

pub returns-clause-start : goal.returns-clause-start
returns-clause-start c = starts_at c.new.result (subst (λ (xs : List Bool). Hunts xs []) (sym c.new.ensures) hunts_nothing)
