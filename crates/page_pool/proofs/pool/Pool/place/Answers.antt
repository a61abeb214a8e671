use Rattle.std.proofs.Common.{◌∙◌, arith, refl}
use Rattle.page_pool.proofs.Reading as reading
use Rattle.page_pool.proofs.pool.Pool.place.Goals as goal

pub overflow_cast-k : goal.overflow_cast-k
overflow_cast-k c =
    let h = reading.short c.self.inside c.self.invariant _ c.self.view_is c.args.t c.args.t refl c.requires.0 c.requires.1 in omega (arith, h, c.requires.2)

pub cell_at-requires : goal.cell_at-requires
cell_at-requires c =
    let h = reading.place_in c.self.inside c.self.invariant _ c.self.view_is c.t.inside.cell c.args.t c.t.view_is c.requires.0 c.requires.1 c.args.k c.requires.2 in
    reading.cells_below c.self.inside c.self.invariant _ c.self.view_is c.t.inside.cell c.args.t c.t.view_is c.requires.0 c.requires.1 c.args.k h _ c.deref.ensures.value

pub returns : goal.returns
returns c e n =
    let h = reading.place_in c.self.inside c.self.invariant _ c.self.view_is c.t.inside.cell c.args.t c.t.view_is c.requires.0 c.requires.1 c.args.k c.requires.2 in
    c.cell_at.ensures ∙ reading.place_is c.self.inside c.self.invariant _ c.self.view_is c.t.inside.cell c.args.t c.t.view_is e n c.args.k h _ c.deref.ensures.value
