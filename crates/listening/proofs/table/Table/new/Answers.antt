use Rattle.std.proofs.Common.{sym, ap, arith}
use Rattle.listening.specs.Table.{batches_in}
use Rattle.listening.proofs.Tables.{entries-none}
use Rattle.listening.proofs.table.Table.new.Goals as goal

pub returns : goal.returns
returns c = record { front_is = c.new.ensures.stands; batches_are = ap batches_in (sym entries-none); few = omega arith }
