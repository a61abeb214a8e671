use Rattle.std.proofs.Common.{◌≡◌, ℕ, ◌+◌, ◌-◌, ◌*◌, ◌/◌, ◌<◌, length, get_or}
use Rattle.page_pool.specs.Cells.{cells_for}
use Rattle.page_pool.specs.Chain.{cell_behind, walk, times}
use Rattle.page_pool.specs.Layout.{link_of, byte_at}
use Rattle.page_pool.proofs.cells.write_text.Given as goal

abbrev pub invariant-loop-i : goal.invariant-loop-i
invariant-loop-i l = record {
  cell : l.cell ≡ cell_behind (link_of l.links) ((l.i - 1) / 32) l.from;
  written : (k : ℕ) → k < l.i → byte_at l.bytes (walk (link_of l.links) (cells_for (length l.chars)) l.from) k ≡ get_or l.chars k 0;
  others : (k : ℕ) → times k (walk (link_of l.links) (cells_for (length l.chars)) l.from) ≡ 0 → (j : ℕ) → j < 32 → get_or l.bytes (32 * k + j) 0 ≡ get_or l.fn.bytes (32 * k + j) 0;
}
