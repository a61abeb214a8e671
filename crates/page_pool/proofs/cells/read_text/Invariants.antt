use Rattle.std.proofs.Common.{◌≡◌, ℕ, ◌-◌, ◌/◌, ◌<◌, length, get_or}
use Rattle.page_pool.specs.Chain.{cell_behind}
use Rattle.page_pool.specs.Layout.{link_of, cells_from, byte_at}
use Rattle.page_pool.proofs.cells.read_text.Given as goal

abbrev pub invariant-loop-i : goal.invariant-loop-i
invariant-loop-i l = record {
  cell : l.cell ≡ cell_behind (link_of l.links) ((l.i - 1) / 32) l.from;
  read : (k : ℕ) → k < l.i → get_or l.into k 0 ≡ byte_at l.bytes (cells_from l.links l.from (length l.fn.into)) k;
}
