use Rattle.std.proofs.Common.{◌≡◌, ℕ, ◌+◌, ◌*◌, ◌<◌, ◌≤◌, length, get_or, take, Result, Ok, Err, IsErr, OnOk, true, refl, sym, ap, subst, ◌∙◌, arith}
use Rattle.std.proofs.lemmas.List.{take_all}
use Rattle.page_pool.specs.Cells.{cells_for}
use Rattle.page_pool.specs.Gains.{Gains, pages_to}
use Rattle.page_pool.specs.Pool.{Pool, PutsPage, page}
use Rattle.page_pool.proofs.Gains.{gains_push, pages_to-more, too_few, enough, has_room, left_then}
use Rattle.page_pool.proofs.pool.Pool.put_all.Goals as goal

-- what holds after a call that made no error
when_put : {A B : Type 0} (r : Result A B) (P : Type 0) → (IsErr r → ⊥) → OnOk r P → P
when_put (Ok x) P h p = p
when_put (Err e) P h p = absurd (h refl)

-- no number is below one that it reaches
not_below : (a b : ℕ) → b ≤ a → a < b → ⊥
not_below a b h k = omega (arith, h, k)

pub loop-capcode-preserved : goal.loop-capcode-preserved
loop-capcode-preserved c =
    let capcodes = c.args.capcodes.now in
    let text = c.args.text.now in
    let k = c.loop-capcode.capcode-index in
    let fit = enough c.args.self.now.spare (length text) (length capcodes) _ _ c.spare.ensures.spare c.cells_for.ensures c.if-pages-capcodes.false in
    let room = has_room c.args.self.now.spare c.loop-capcode.self.spare (cells_for (length text)) k (length capcodes) c.loop-capcode.invariant.left fit c.loop-capcode-test.true in
    let put = when_put c.put.result _ (λ e. not_below _ _ room (c.put.ensures.full.0 e)) c.put.ensures.put in
    record {
      gains = subst (λ ps. Gains c.args.self.now c.put.new.self ps) (sym (pages_to-more capcodes k c.capcode-item.result c.args.function text c.capcode-item.is c.loop-capcode-test.true)) (gains_push _ _ _ _ _ c.loop-capcode.invariant.gains put);
      left = left_then c.args.self.now.spare c.loop-capcode.self.spare c.put.new.self.spare (cells_for (length text)) k c.loop-capcode.invariant.left put.spare;
    }

pub returns-then-pages-capcodes-clause-full : goal.returns-then-pages-capcodes-clause-full
returns-then-pages-capcodes-clause-full c =
    let low = too_few c.args.self.now.spare (length c.args.text.now) (length c.args.capcodes.now) _ _ c.spare.ensures.spare c.cells_for.ensures c.if-pages-capcodes.true in
    ((λ e. low), (λ h. refl))
