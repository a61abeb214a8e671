use Rattle.std.proofs.Common.{◌≡◌, length}
use Rattle.air.specs.Readers.{words_left, words_lender, words_pool}
use Rattle.page_pool.specs.Pool.{cells, pages}
use Rattle.serving.proofs.Recorded.{Recorded}
use Rattle.serving.proofs.sending.record.Given as goal

abbrev pub invariant-loop-word : goal.invariant-loop-word
invariant-loop-word l = record {
  recorded : Recorded (pages l.fn.pool) l.recording (words_left l.words);
  cells : cells (words_pool l.words) ≡ cells l.fn.pool;
  lends : words_lender l.words ≡ words_lender l.initial.words;
}

abbrev pub decreases-loop-word : goal.decreases-loop-word
decreases-loop-word l = length (words_left l.words)
