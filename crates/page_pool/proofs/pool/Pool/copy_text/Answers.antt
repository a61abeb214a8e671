use Rattle.std.proofs.Common.{◌≡◌, ◌∙◌, ◌++◌, ap₂, sym, arith, length, drop}
use Rattle.std.proofs.lemmas.List.{length-take-le}
use Rattle.page_pool.proofs.Reading as reading
use Rattle.page_pool.proofs.pool.Pool.copy_text.Goals as goal

pub index-head-requires : goal.index-head-requires
index-head-requires c =
    let b = reading.below c.self.inside c.self.invariant _ c.self.view_is c.t.inside.cell c.args.t c.t.view_is c.requires.live.0 c.requires.live.1 in
    omega (arith, b, c.self.inside.heads.ok.0)

pub slice_bounds-read_text-end : goal.slice_bounds-read_text-end
slice_bounds-read_text-end c =
    reading.length_fits c.self.inside c.self.invariant _ c.self.view_is c.t.inside.cell c.args.t c.t.view_is c.requires.live.0 c.requires.live.1 _ c.index-head.ensures _ c.requires.room

pub slice_bounds-read_text-end-2 : goal.slice_bounds-read_text-end-2
slice_bounds-read_text-end-2 c =
    let fits = reading.length_fits c.self.inside c.self.invariant _ c.self.view_is c.t.inside.cell c.args.t c.t.view_is c.requires.live.0 c.requires.live.1 _ c.index-head.ensures _ c.requires.room in
    sym (length-take-le c.index-head.result.now.length c.args.into.now fits)

pub read_text-requires-clause-cells : goal.read_text-requires-clause-cells
read_text-requires-clause-cells c =
    let fits = reading.length_fits c.self.inside c.self.invariant _ c.self.view_is c.t.inside.cell c.args.t c.t.view_is c.requires.live.0 c.requires.live.1 _ c.index-head.ensures _ c.requires.room in
    let size = reading.length_read c.self.inside c.self.invariant _ c.self.view_is c.t.inside.cell c.args.t c.t.view_is c.requires.live.0 c.requires.live.1 _ c.index-head.ensures in
    reading.all_below c.self.inside c.self.invariant _ c.self.view_is c.t.inside.cell c.args.t c.t.view_is c.requires.live.0 c.requires.live.1 _
    (length-take-le c.index-head.result.now.length c.args.into.now fits ∙ size) _ c.deref-2.ensures.value

pub returns-clause-length : goal.returns-clause-length
returns-clause-length c e n =
    reading.length_read c.self.inside c.self.invariant _ c.self.view_is c.t.inside.cell c.args.t c.t.view_is e n _ c.index-head.ensures
    ∙ sym (reading.len_is c.self.inside c.self.invariant _ c.self.view_is c.t.inside.cell c.args.t c.t.view_is e n)

pub returns-clause-text : goal.returns-clause-text
returns-clause-text c e n =
    let fits = reading.length_fits c.self.inside c.self.invariant _ c.self.view_is c.t.inside.cell c.args.t c.t.view_is e n _ c.index-head.ensures _ c.requires.room in
    let size = reading.length_read c.self.inside c.self.invariant _ c.self.view_is c.t.inside.cell c.args.t c.t.view_is e n _ c.index-head.ensures in
    let is : c.read_text.new.into ≡ e.page.text =
    c.read_text.ensures ∙ reading.text_along c.self.inside c.self.invariant _ c.self.view_is c.t.inside.cell c.args.t c.t.view_is e n _
    (length-take-le c.index-head.result.now.length c.args.into.now fits ∙ size) _ _ c.deref.ensures.value c.deref-2.ensures.value in
    let l : c.index-head.result.now.length ≡ length e.page.text =
    size ∙ sym (reading.len_is c.self.inside c.self.invariant _ c.self.view_is c.t.inside.cell c.args.t c.t.view_is e n) in
    ap₂ (λ t k. t ++ drop k c.args.into.now) is l
