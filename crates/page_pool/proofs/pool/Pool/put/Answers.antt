use Rattle.std.proofs.Common.{◌∙◌, ap, arith, length}
use Rattle.std.proofs.lemmas.List.{with_items_is}
use Rattle.std.specs.Prelude.{slice_set, Some}
use Rattle.page_pool.specs.Layout.{NONE, ends, linked}
use Rattle.page_pool.proofs.Putting as putting
use Rattle.page_pool.proofs.pool.Pool.put.Goals as goal

pub write_text-end-requires-clause-cells : goal.write_text-end-requires-clause-cells
write_text-end-requires-clause-cells c = putting.cells_below c.self.inside c.self.invariant _ _ c.cells_for-cells.ensures c.if-self-cells.false _ c.deref.ensures.value

pub write_text-end-requires-clause-apart : goal.write_text-end-requires-clause-apart
write_text-end-requires-clause-apart c = putting.apart c.self.inside c.self.invariant _ _ c.cells_for-cells.ensures c.if-self-cells.false _ c.deref.ensures.value

pub set_link-self-inside-requires : goal.set_link-self-inside-requires
set_link-self-inside-requires c =
    let b = putting.end_below c.self.inside c.self.invariant _ _ c.cells_for-cells.ensures c.if-self-cells.false _ c.deref.ensures.value _ c.write_text-end.ensures.last in
    omega (arith, b, ap length c.deref.ensures.value, ap length c.deref_mut-2.ensures.value)

pub link-requires : goal.link-requires
link-requires c =
    let b = putting.free_below c.self.inside c.self.invariant _ _ c.cells_for-cells.ensures c.if-self-cells.false _ c.deref.ensures.value in
    omega (arith, b, ap length c.deref_mut-3.ensures.value)

pub overflow_add-self : goal.overflow_add-self
overflow_add-self c = let b = putting.counted c.self.inside c.self.invariant in omega (arith, b)

pub invariant_of-self : goal.invariant_of-self
invariant_of-self c =
    let B = with_items_is c.self.inside.bytes c.write_text-end.new.bytes (omega (arith, c.write_text-end.auto.bytes, c.deref_mut.ensures.len)) in
    let L = with_items_is c.self.inside.links c.set_link-self-inside.new.links (omega (arith, c.set_link-self-inside.auto.links, c.deref_mut-2.ensures.len)) ∙ c.set_link-self-inside.ensures.set ∙ ap (λ l. slice_set l c.write_text-end.result NONE) c.deref_mut-2.ensures.value in
    let H = with_items_is c.self.inside.heads c.link.new.heads (omega (arith, c.link.auto.heads, c.deref_mut-3.ensures.len)) ∙ c.link.ensures ∙ ap (λ l. linked l c.self.inside.free (record { address = Some (record { capcode = c.args.capcode; function = c.args.function }); length = length c.args.text.now; before = c.self.inside.last; after = NONE; peer_before = (ends c.self.inside.frames c.frame-frame.result).last; peer_after = NONE })) c.deref_mut-3.ensures.value in
    putting.holds c.self.inside c.self.invariant c.args.self.now c.self.view_is c.args.capcode c.args.function _ c.frame-frame.ensures.value c.args.text.now c.requires
    _ c.cells_for-cells.ensures c.if-self-cells.false _ c.deref.ensures.value _ _ _ c.deref_mut.ensures.value c.write_text-end.auto.bytes
    c.write_text-end.ensures.written c.write_text-end.ensures.others _ c.write_text-end.ensures.last _ _ _ c.deref_mut-2.ensures.value c.set_link-self-inside.ensures.was _ _ B L H c.replaced-self-inside.ensures _ _ c.set_ends.ensures c.replaced-start.ensures

pub returns-clause-put : goal.returns-clause-put
returns-clause-put c =
    let B = with_items_is c.self.inside.bytes c.write_text-end.new.bytes (omega (arith, c.write_text-end.auto.bytes, c.deref_mut.ensures.len)) in
    let L = with_items_is c.self.inside.links c.set_link-self-inside.new.links (omega (arith, c.set_link-self-inside.auto.links, c.deref_mut-2.ensures.len)) ∙ c.set_link-self-inside.ensures.set ∙ ap (λ l. slice_set l c.write_text-end.result NONE) c.deref_mut-2.ensures.value in
    let H = with_items_is c.self.inside.heads c.link.new.heads (omega (arith, c.link.auto.heads, c.deref_mut-3.ensures.len)) ∙ c.link.ensures ∙ ap (λ l. linked l c.self.inside.free (record { address = Some (record { capcode = c.args.capcode; function = c.args.function }); length = length c.args.text.now; before = c.self.inside.last; after = NONE; peer_before = (ends c.self.inside.frames c.frame-frame.result).last; peer_after = NONE })) c.deref_mut-3.ensures.value in
    putting.meets c.self.inside c.self.invariant c.args.self.now c.self.view_is c.args.capcode c.args.function _ c.frame-frame.ensures.value c.args.text.now c.requires
    _ c.cells_for-cells.ensures c.if-self-cells.false _ c.deref.ensures.value _ _ _ c.deref_mut.ensures.value c.write_text-end.auto.bytes
    c.write_text-end.ensures.written c.write_text-end.ensures.others _ c.write_text-end.ensures.last _ _ _ c.deref_mut-2.ensures.value c.set_link-self-inside.ensures.was _ _ B L H c.replaced-self-inside.ensures _ _ c.set_ends.ensures c.replaced-start.ensures
