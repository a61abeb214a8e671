use Rattle.std.proofs.Common.{◌≡◌}
use Rattle.page_pool.specs.Chain.{cell_behind}
use Rattle.page_pool.specs.Layout.{link_of}
use Rattle.page_pool.proofs.cells.cell_at.Given as goal

abbrev pub invariant-loop-hop : goal.invariant-loop-hop
invariant-loop-hop l = l.cell ≡ cell_behind (link_of l.links) l.hop l.from
