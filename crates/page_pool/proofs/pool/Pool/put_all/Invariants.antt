use Rattle.std.proofs.Common.{◌≡◌, ◌+◌, ◌*◌, take, length}
use Rattle.page_pool.specs.Cells.{cells_for}
use Rattle.page_pool.specs.Gains.{Gains, pages_to}
use Rattle.page_pool.proofs.pool.Pool.put_all.Given as goal

-- the pages so far, and the cells that they take
abbrev pub invariant-loop-capcode : goal.invariant-loop-capcode
invariant-loop-capcode l = record {
  gains : Gains l.fn.self l.self (pages_to (take l.capcode-index l.capcodes) l.function l.text);
  left : l.self.spare + cells_for (length l.text) * l.capcode-index ≡ l.fn.self.spare;
}
