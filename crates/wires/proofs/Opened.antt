-- The connection that was opened.
use Rattle.std.proofs.Common.{ℕ, List, true, Ok, IsTrue, refl, subst, sym, arith}
use Rattle.wires.specs.Line.{Line, Opens, Dials, IsBlank}

-- one that `next` opened is blank
pub Opens-blank : {E : Type 0} (old new : Line) → IsTrue old.tells → Opens {E = E} old new (Ok true) → IsBlank (new.connection old.opened)
Opens-blank old new t h = subst IsBlank (sym (h.connections old.opened)) (h.blank t old.opened (omega arith) (h.opened t refl).0)

-- one that `dial` opened is blank
pub Dials-blank : {T E : Type 0} (old new : Line) (at : List ℕ) (x : T) → IsTrue old.tells → Dials {E = E} old new at (Ok x) → IsBlank (new.connection old.opened)
Dials-blank old new at x t h = subst IsBlank (sym (h.connections old.opened)) (h.blank t old.opened (omega arith) (h.opened t).0)
