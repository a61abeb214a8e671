use Rattle.std.proofs.Common.{ℕ, ◌-◌, refl, subst, bit_xor}
use Rattle.bch31.specs.Twin.{IsNear}
use Rattle.bch31.proofs.Turns.{step_wider, step_turned, step_none, step_last, some_map, bit_above}
use Rattle.bch31.proofs.twin.+search.Goals as goal

pub returns-in-Some-clause-some : goal.returns-in-Some-clause-some
returns-in-Some-clause-some n c = step_wider c.args.w c.in-Some.v c.args.places c.args.left c.if-places-eq0.false c.in-Some.ensures.some

pub returns-then-left-eq0-clause-none : goal.returns-then-left-eq0-clause-none
returns-then-left-eq0-clause-none n c h v near =
    step_last c.args.w v c.args.places c.args.left c.if-places-eq0.false c.if-left-eq0.true (c.in-None.ensures.none refl v) near

pub returns-else-left-eq0-clause-some : goal.returns-else-left-eq0-clause-some
returns-else-left-eq0-clause-some n c =
    some_map c.search-else-left-eq0.result (λ v h. step_turned c.args.w v c.args.places c.args.left c.if-places-eq0.false c.if-left-eq0.false
    (subst (λ (t : ℕ). IsNear (bit_xor c.args.w t) v (c.args.places - 1) (c.args.left - 1)) (bit_above c.args.places c.if-places-eq0.false c.requires) h)) c.search-else-left-eq0.ensures.some

pub returns-else-left-eq0-clause-none : goal.returns-else-left-eq0-clause-none
returns-else-left-eq0-clause-none n c h v near =
    step_none c.args.w v c.args.places c.args.left c.if-places-eq0.false c.if-left-eq0.false (c.in-None.ensures.none refl v)
    (subst (λ (t : ℕ). IsNear (bit_xor c.args.w t) v (c.args.places - 1) (c.args.left - 1) → ⊥) (bit_above c.args.places c.if-places-eq0.false c.requires) (c.search-else-left-eq0.ensures.none h v)) near
