use Rattle.std.proofs.Common.{◌≡◌, List, ℕ, ◌∙◌, ap, refl, subst, sym}
use Rattle.air.specs.Readers.{words_left}
use Rattle.page_pool.specs.Pool.{Pool, cells, pages}
use Rattle.serving.proofs.LeftPool.{no_page}
use Rattle.serving.proofs.Recorded.{Recorded, recorded_none}
use Rattle.serving.proofs.sending.record.Goals as goal

pub loop-word-init : goal.loop-word-init
loop-word-init c = record {
  recorded = subst (λ (r : List ℕ). Recorded (pages c.args.pool.now) r (words_left c.over-words.result)) (sym c.clear.ensures)
      (recorded_none c.args.pool.now (words_left c.over-words.result) c.requires c.over-words.ensures.words);
  cells = ap cells c.over-words.ensures.same;
  lends = refl;
}

pub returns-clause-empties : goal.returns-clause-empties
returns-clause-empties c =
    let same = c.pool-1.given.1 (sym (c.next.ensures.lends ∙ c.loop-word.invariant.lends ∙ c.over-words.ensures.lends)) in
    ap (λ (w : Pool). w.live) same ∙ no_page (c.next.new.self.pool.now) (c.in_default.ensures.ended.1)

pub returns-clause-cells_stay : goal.returns-clause-cells_stay
returns-clause-cells_stay c =
    let same = c.pool-1.given.1 (sym (c.next.ensures.lends ∙ c.loop-word.invariant.lends ∙ c.over-words.ensures.lends)) in
    ap cells same ∙ (c.in_default.ensures.keeps.cells ∙ c.loop-word.invariant.cells)
