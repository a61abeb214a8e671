use Rattle.std.proofs.Common.{length, drop-cons, slice_index_or, arith}
use Rattle.std.proofs.lemmas.Grind.{common_steps}
use Rattle.tap_entry.specs.PagesFile.{no_page}
use Rattle.calling.proofs.PageArms.{page_begins, leaving_begins}
use Rattle.calling.proofs.stages.begin.Goals as goal

pub returns-then-k-count : goal.returns-then-k-count
returns-then-k-count g c = λ x past said k h.
    page_begins c.args.pages.now c.args.client _ (slice_index_or c.args.pages.now.pages (length c.args.done.now.items) no_page) _ c.args.done.now.items x past said _ _ _ h
    (drop-cons c.args.pages.now.pages (length c.args.done.now.items) no_page (grind (arith, common_steps, c.if-k-count.true)))
    (c.start.ensures.stands x past k)
    (grind (arith, common_steps, c.start.ensures.held, c.id.ensures.value, c.text.ensures.value))
    c.say_block.ensures

pub returns : goal.returns
returns g c = λ x past said k h.
    leaving_begins c.args.pages.now c.leave.result c.args.done.now.items x past said _ _ _ h
    (grind (arith, common_steps, c.if-k-count.false)) (grind (arith, common_steps, k)) c.say_then.ensures
