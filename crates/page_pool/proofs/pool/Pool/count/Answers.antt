use Rattle.std.proofs.Common.{length, ap, sym, ◌∙◌}
use Rattle.std.proofs.lemmas.List.{length-map}
use Rattle.page_pool.proofs.Chains.{length-walk}
use Rattle.page_pool.proofs.Sounds.{sound}
use Rattle.page_pool.proofs.pool.Pool.count.Goals as goal

pub returns-clause-count : goal.returns-clause-count
returns-clause-count c = sym (ap (λ w. length w.live) (sym c.self.view_is) ∙ length-map _ _ ∙ length-walk _ _ _)

pub returns-clause-sound : goal.returns-clause-sound
returns-clause-sound c = sound c.self.inside c.self.invariant _ c.self.view_is
