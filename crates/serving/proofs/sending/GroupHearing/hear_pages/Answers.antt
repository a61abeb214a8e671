use Rattle.std.proofs.Common.{◌∙◌, ap, refl, rules, sym}
use Rattle.page_pool.specs.Pool.{cells, pages}
use Rattle.serving.specs.Leaves.{HearingLeaves}
use Rattle.serving.specs.Sent.{once}
use Rattle.listening.specs.PageLines.{group_lines}
use Rattle.serving.proofs.FewWords.{few_air}
use Rattle.listening.proofs.PlayedPages.{group_lines-none}
use Rattle.serving.proofs.LeftPool.{no_live, no_page, same_cells}
use Rattle.serving.proofs.Trials.{hears_none, no_pages}
use Rattle.serving.proofs.sending.GroupHearing.hear_pages.Goals as goal

pub returns-then-count-eq0-clause-hears : goal.returns-then-count-eq0-clause-hears
returns-then-count-eq0-clause-hears g c =
    hears_none once (pages c.args.pool.now) (group_lines c.args.self.now) (g.N.BitSource.state c.args.noise.now) (g.O.Sink.state c.args.out.now)
    (group_lines-none c.args.self.now) (no_pages c.args.pool.now (sym c.count.ensures.count ∙ c.if-count-eq0.true))

pub listen_through-requires-clause-few : goal.listen_through-requires-clause-few
listen_through-requires-clause-few g c = few_air c.args.pool.now _ c.count.ensures.sound c.over-air.ensures.bits

pub listen_through-requires-clause-silent : goal.listen_through-requires-clause-silent
listen_through-requires-clause-silent g c = group_lines-none c.args.self.now

pub returns-then-count-eq0-clause-leaves : goal.returns-then-count-eq0-clause-leaves
returns-then-count-eq0-clause-leaves g c = record { cells_stay = refl; all = λ e. no_live c.args.pool.now (sym c.count.ensures.count ∙ c.if-count-eq0.true) }

pub returns-clause-leaves : goal.returns-clause-leaves
returns-clause-leaves g c =
    let l = c.listen_through.ensures.leaves in
    let h : HearingLeaves c.args.pool.now c.listen_through.new.bits.pool.now c.listen_through.result = record {
      cells_stay = same_cells _ _ _ _ (c.over-air.result.pool.now) (c.listen_through.new.bits.pool.now) l.lent ∙ ap cells c.over-air.ensures.pool_same;
      all = λ e. no_page (c.listen_through.new.bits.pool.now) (c.listen_through.new.bits.empties (l.all e));
    } in
    search (rules, h)
