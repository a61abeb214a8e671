use Rattle.std.proofs.Common.{length}
use Rattle.air.specs.Readers.{words_left}
use Rattle.page_pool.specs.Pool.{pages}
use Rattle.load.proofs.Hearing.{HearsWords}
use Rattle.load.proofs.running.hear_all.Given as goal

abbrev pub invariant-loop-word : goal.invariant-loop-word
invariant-loop-word l =
    HearsWords (pages l.fn.pool) l.fn.draws.generator l.fn.first l.fn.second l.draws.generator l.first l.second l.heard.words l.heard.lines.count l.heard.lines.bytes l.heard.lines.sum l.heard.kept (words_left l.words)

abbrev pub decreases-loop-word : goal.decreases-loop-word
decreases-loop-word l = length (words_left l.words)
