use Rattle.std.proofs.Common.{◌+◌, ◌<◌, sym, add-one, arith}
use Rattle.page_pool.specs.Layout.{link_of}
use Rattle.page_pool.proofs.Chains.{step_more}
use Rattle.page_pool.proofs.Texts.{step_in}
use Rattle.page_pool.proofs.cells.cell_at.Goals as goal

pub bounds-links-cell : goal.bounds-links-cell
bounds-links-cell c =
    let k : c.loop-hop.hop < c.args.k + 1 = omega arith in
    rw c.loop-hop.invariant (c.requires _ (step_in _ _ _ _ k))

pub loop-hop-preserved : goal.loop-hop-preserved
loop-hop-preserved c = rw (c.loop-hop.invariant, add-one) (sym (step_more (link_of c.args.links.now) c.loop-hop.hop c.args.from))
