use Rattle.std.proofs.Common.{◌∙◌, ap, sym, subst, arith, IsSome}
use Rattle.page_pool.specs.Layout.{capcode_in, function_in}
use Rattle.page_pool.specs.declared.heads.Head.{Head}
use Rattle.page_pool.proofs.Reading as reading
use Rattle.page_pool.proofs.Taking.{read_head}
use Rattle.page_pool.proofs.pool.Pool.address.Goals as goal

pub index-head-requires : goal.index-head-requires
index-head-requires c = let b = reading.below c.self.inside c.self.invariant _ c.self.view_is c.t.inside.cell c.args.t c.t.view_is c.requires.0 c.requires.1 in omega (arith, b, c.self.inside.heads.ok.0)

pub unwrap-requires : goal.unwrap-requires
unwrap-requires c =
    let b = reading.below c.self.inside c.self.invariant _ c.self.view_is c.t.inside.cell c.args.t c.t.view_is c.requires.0 c.requires.1 in
    subst (λ (h : Head). IsSome h.address) (sym (read_head c.self.inside.heads.items c.t.inside.cell _ b c.index-head.ensures))
    (reading.address_is c.self.inside c.self.invariant _ c.self.view_is c.t.inside.cell c.args.t c.t.view_is c.requires)

pub returns : goal.returns
returns c e n =
    let b = reading.below c.self.inside c.self.invariant _ c.self.view_is c.t.inside.cell c.args.t c.t.view_is e n in
    let h = read_head c.self.inside.heads.items c.t.inside.cell _ b c.index-head.ensures in
    let is = reading.entry_is c.self.inside c.self.invariant _ c.self.view_is c.t.inside.cell c.args.t c.t.view_is e n in (
      ap capcode_in (sym c.unwrap.ensures) ∙ ap (λ (k : Head). capcode_in k.address) h ∙ ap (λ x. x.page.capcode) is,
      ap function_in (sym c.unwrap.ensures) ∙ ap (λ (k : Head). function_in k.address) h ∙ ap (λ x. x.page.function) is,
    )
