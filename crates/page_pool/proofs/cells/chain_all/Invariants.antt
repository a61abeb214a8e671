use Rattle.std.proofs.Common.{◌≡◌, ℕ, ◌+◌, ◌<◌, length}
use Rattle.page_pool.specs.Layout.{NONE, link_of}
use Rattle.page_pool.proofs.cells.chain_all.Given as goal

abbrev pub invariant-loop-i : goal.invariant-loop-i
invariant-loop-i l = record {
  next : (k : ℕ) → k < l.i → k + 1 < length l.links → link_of l.links k ≡ k + 1;
  last : (k : ℕ) → k < l.i → k + 1 ≡ length l.links → link_of l.links k ≡ NONE;
}
