use Rattle.std.proofs.Common.{◌≡◌, ◌<◌, ◌∙◌, ap, sym, subst, arith, length, Bool, true, IsTrue}
use Rattle.page_pool.specs.Pool.{IsLive}
use Rattle.page_pool.proofs.Reading as reading
use Rattle.page_pool.proofs.Taking.{read_head}
use Rattle.std.specs.Option.{is_some}
use Rattle.page_pool.specs.declared.heads.Head.{Head}
use Rattle.page_pool.proofs.pool.Pool.live.Goals as goal

true_of : (b : Bool) → IsTrue b → b ≡ true
true_of b h = h

of_true : (b : Bool) → b ≡ true → IsTrue b
of_true b h = h

pub returns-then-t-len : goal.returns-then-t-len
returns-then-t-len c =
    let l = (let b : c.t.inside.cell < length c.self.inside.heads.items = omega (arith, c.if-t-len.true, c.len.ensures, c.self.inside.heads.ok.0) in b) in
    let e = read_head c.self.inside.heads.items c.t.inside.cell _ l c.index.ensures in
    let f = c.is_some.ensures ∙ ap (λ (z : Head). is_some z.address) e in (
      λ h. subst (λ z. IsLive c.args.self.now z) c.t.view_is (reading.live_yes c.self.inside c.self.invariant _ c.self.view_is c.t.inside.cell l (sym f ∙ true_of _ h)),
      λ h. of_true _ (f ∙ reading.live_no c.self.inside c.self.invariant _ c.self.view_is c.t.inside.cell c.args.t c.t.view_is h),
    )

pub returns-else-t-len : goal.returns-else-t-len
returns-else-t-len c =
    (λ h. absurd (cc), λ h. absurd (let b = reading.below c.self.inside c.self.invariant _ c.self.view_is c.t.inside.cell c.args.t c.t.view_is h.0 h.1 in omega (arith, b, c.if-t-len.false, c.len.ensures, c.self.inside.heads.ok.0)))
