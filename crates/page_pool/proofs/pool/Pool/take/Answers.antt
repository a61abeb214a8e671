use Rattle.std.proofs.Common.{◌≡◌, ◌≤◌, ◌∙◌, ap, sym, subst, arith, length}
use Rattle.std.proofs.lemmas.List.{with_items_is}
use Rattle.std.specs.Prelude.{slice_set}
use Rattle.page_text.specs.declared.limits.TheConstants.{LONGEST_TEXT}
use Rattle.page_pool.specs.Cells.{cells_for}
use Rattle.page_pool.specs.Layout.{head, unlinked}
use Rattle.page_pool.proofs.Taking as taking
use Rattle.page_pool.proofs.Taking.{read_head}
use Rattle.page_pool.proofs.pool.Pool.take.Goals as goal

pub index-head-requires : goal.index-head-requires
index-head-requires c =
    let b = taking.below c.self.inside c.self.invariant c.args.self.now c.self.view_is c.t.inside.cell c.args.t c.t.view_is c.requires in
    omega (arith, b, c.self.inside.heads.ok.0)

pub cells_for-cells-requires : goal.cells_for-cells-requires
cells_for-cells-requires c =
    let b = taking.below c.self.inside c.self.invariant c.args.self.now c.self.view_is c.t.inside.cell c.args.t c.t.view_is c.requires in
    let s = taking.short c.self.inside c.self.invariant c.args.self.now c.self.view_is c.t.inside.cell c.args.t c.t.view_is c.requires in
    subst (λ h. h.length ≤ LONGEST_TEXT) (sym (read_head c.self.inside.heads.items c.t.inside.cell _ b c.index-head.ensures)) s

pub cell_at-end-requires : goal.cell_at-end-requires
cell_at-end-requires c =
    let b = taking.below c.self.inside c.self.invariant c.args.self.now c.self.view_is c.t.inside.cell c.args.t c.t.view_is c.requires in
    taking.cells_below c.self.inside c.self.invariant c.args.self.now c.self.view_is c.t.inside.cell c.args.t c.t.view_is c.requires _ _ c.deref.ensures.value
    (c.cells_for-cells.ensures ∙ ap (λ h. cells_for h.length) (read_head c.self.inside.heads.items c.t.inside.cell _ b c.index-head.ensures))

pub set_link-requires : goal.set_link-requires
set_link-requires c =
    let b = taking.below c.self.inside c.self.invariant c.args.self.now c.self.view_is c.t.inside.cell c.args.t c.t.view_is c.requires in
    let k : c.cells_for-cells.result ≡ cells_for (head c.self.inside.heads.items c.t.inside.cell).length =
    c.cells_for-cells.ensures ∙ ap (λ h. cells_for h.length) (read_head c.self.inside.heads.items c.t.inside.cell _ b c.index-head.ensures) in
    let e = taking.end_is c.self.inside c.self.invariant c.args.self.now c.self.view_is c.t.inside.cell c.args.t c.t.view_is c.requires _ _ _ c.deref.ensures.value k c.cell_at-end.ensures in
    let u = taking.end_below c.self.inside c.self.invariant c.args.self.now c.self.view_is c.t.inside.cell c.args.t c.t.view_is c.requires in
    omega (arith, e, u, ap length c.deref_mut.ensures.value)

pub overflow_add-self : goal.overflow_add-self
overflow_add-self c =
    let b = taking.below c.self.inside c.self.invariant c.args.self.now c.self.view_is c.t.inside.cell c.args.t c.t.view_is c.requires in
    let k : c.cells_for-cells.result ≡ cells_for (head c.self.inside.heads.items c.t.inside.cell).length =
    c.cells_for-cells.ensures ∙ ap (λ h. cells_for h.length) (read_head c.self.inside.heads.items c.t.inside.cell _ b c.index-head.ensures) in
    let s = taking.spare_fits c.self.inside c.self.invariant c.args.self.now c.self.view_is c.t.inside.cell c.args.t c.t.view_is c.requires _ k in
    omega (arith, s)

pub unlink-requires : goal.unlink-requires
unlink-requires c =
    let b = taking.below c.self.inside c.self.invariant c.args.self.now c.self.view_is c.t.inside.cell c.args.t c.t.view_is c.requires in
    omega (arith, b, ap length c.deref_mut-2.ensures.value)

pub overflow_sub-self : goal.overflow_sub-self
overflow_sub-self c = taking.counted c.self.inside c.self.invariant c.args.self.now c.self.view_is c.t.inside.cell c.args.t c.t.view_is c.requires

pub invariant_of-self : goal.invariant_of-self
invariant_of-self c =
    let b = taking.below c.self.inside c.self.invariant c.args.self.now c.self.view_is c.t.inside.cell c.args.t c.t.view_is c.requires in
    let h = read_head c.self.inside.heads.items c.t.inside.cell _ b c.index-head.ensures in
    let k : c.cells_for-cells.result ≡ cells_for (head c.self.inside.heads.items c.t.inside.cell).length = c.cells_for-cells.ensures ∙ ap (λ h. cells_for h.length) h in
    let e = taking.end_is c.self.inside c.self.invariant c.args.self.now c.self.view_is c.t.inside.cell c.args.t c.t.view_is c.requires _ _ _ c.deref.ensures.value k c.cell_at-end.ensures in
    let L = with_items_is c.self.inside.links c.set_link.new.links (omega (arith, c.set_link.auto.links, c.deref_mut.ensures.len)) ∙ c.set_link.ensures.set ∙ ap (λ l. slice_set l c.cell_at-end.result c.self.inside.free) c.deref_mut.ensures.value in
    let H = with_items_is c.self.inside.heads c.unlink.new.heads (omega (arith, c.unlink.auto.heads, c.deref_mut-2.ensures.len)) ∙ c.unlink.ensures ∙ ap (λ l. unlinked l c.t.inside.cell) c.deref_mut-2.ensures.value in
    taking.holds c.self.inside c.self.invariant c.args.self.now c.self.view_is c.t.inside.cell c.args.t c.t.view_is c.requires _ _ _ _ _ _ _ _ k h e L H c.replaced-self-inside.ensures c.replaced-self-inside-2.ensures
    (taking.frames_same c.self.inside c.self.invariant c.args.self.now c.self.view_is c.t.inside.cell c.args.t c.t.view_is c.requires _ _ _ _ _ h c.frame_in-frame.ensures.value c.set_ends.ensures c.replaced-first.ensures c.replaced-last.ensures)

pub returns : goal.returns
returns c =
    let b = taking.below c.self.inside c.self.invariant c.args.self.now c.self.view_is c.t.inside.cell c.args.t c.t.view_is c.requires in
    let h = read_head c.self.inside.heads.items c.t.inside.cell _ b c.index-head.ensures in
    let k : c.cells_for-cells.result ≡ cells_for (head c.self.inside.heads.items c.t.inside.cell).length = c.cells_for-cells.ensures ∙ ap (λ h. cells_for h.length) h in
    let e = taking.end_is c.self.inside c.self.invariant c.args.self.now c.self.view_is c.t.inside.cell c.args.t c.t.view_is c.requires _ _ _ c.deref.ensures.value k c.cell_at-end.ensures in
    let L = with_items_is c.self.inside.links c.set_link.new.links (omega (arith, c.set_link.auto.links, c.deref_mut.ensures.len)) ∙ c.set_link.ensures.set ∙ ap (λ l. slice_set l c.cell_at-end.result c.self.inside.free) c.deref_mut.ensures.value in
    let H = with_items_is c.self.inside.heads c.unlink.new.heads (omega (arith, c.unlink.auto.heads, c.deref_mut-2.ensures.len)) ∙ c.unlink.ensures ∙ ap (λ l. unlinked l c.t.inside.cell) c.deref_mut-2.ensures.value in
    taking.meets c.self.inside c.self.invariant c.args.self.now c.self.view_is c.t.inside.cell c.args.t c.t.view_is c.requires _ _ _ _ _ _ _ _ k h e L H c.replaced-self-inside.ensures c.replaced-self-inside-2.ensures
    (taking.frames_same c.self.inside c.self.invariant c.args.self.now c.self.view_is c.t.inside.cell c.args.t c.t.view_is c.requires _ _ _ _ _ h c.frame_in-frame.ensures.value c.set_ends.ensures c.replaced-first.ensures c.replaced-last.ensures)
