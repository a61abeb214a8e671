use Rattle.std.proofs.Common.{◌∙◌, ap, sym, arith}
use Rattle.page_pool.specs.declared.heads.Head.{Head}
use Rattle.page_pool.proofs.Reading as reading
use Rattle.page_pool.proofs.Taking.{read_head}
use Rattle.page_pool.proofs.pool.Pool.length.Goals as goal

pub index-head-requires : goal.index-head-requires
index-head-requires c = let b = reading.below c.self.inside c.self.invariant _ c.self.view_is c.t.inside.cell c.args.t c.t.view_is c.requires.0 c.requires.1 in omega (arith, b, c.self.inside.heads.ok.0)

pub returns : goal.returns
returns c e n = let b = reading.below c.self.inside c.self.invariant _ c.self.view_is c.t.inside.cell c.args.t c.t.view_is e n in
    ap (λ (h : Head). h.length) (read_head c.self.inside.heads.items c.t.inside.cell _ b c.index-head.ensures) ∙ sym (reading.len_is c.self.inside c.self.invariant _ c.self.view_is c.t.inside.cell c.args.t c.t.view_is e n)
