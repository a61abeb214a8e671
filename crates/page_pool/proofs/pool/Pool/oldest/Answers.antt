use Rattle.std.proofs.Common.{arith}
use Rattle.page_pool.proofs.Reading as reading
use Rattle.page_pool.proofs.pool.Pool.oldest.Goals as goal

pub returns-else-self-eq0 : goal.returns-else-self-eq0
returns-else-self-eq0 c = reading.oldest c.self.inside c.self.invariant _ c.self.view_is (omega arith)
