use Rattle.std.proofs.Common.{◌*◌, ◌<◌, ◌≤◌, ℕ, length, refl, subst, sym, arith}
use Rattle.codeword.specs.declared.functions.Function.{Function}
use Rattle.page_text.specs.Fits.{Fits}
use Rattle.page_pool.specs.Cells.{cells_for}
use Rattle.page_pool.specs.Gains.{Gains, pages_to}
use Rattle.snpp_entry.proofs.Outcomes.{misfit_done, full_done, put_done}
use Rattle.snpp_entry.proofs.pending.send_text.Goals as goal

not_less : (a b : ℕ) → (a < b → ⊥) → b ≤ a
not_less a b h = omega arith

pub returns-in-Err-clause-done : goal.returns-in-Err-clause-done
returns-in-Err-clause-done c =
    misfit_done c.args.target.now c.args.text.now c.args.pool.now
    (λ h. (let e = c.in-Err.ensures.fits.1 (subst (λ (f : Function). Fits f c.args.text.now) (sym c.function.ensures) h) in absurd cc))

pub returns-in-Ok-put_all-clause-done : goal.returns-in-Ok-put_all-clause-done
returns-in-Ok-put_all-clause-done c =
    put_done c.args.target.now c.args.text.now c.count.result c.args.pool.now c.put_all.new.self
    (subst (λ (f : Function). Fits f c.args.text.now) c.function.ensures (c.in-Ok.ensures.fits.0 refl)) c.count.ensures.value
    (subst (λ cs. cells_for (length c.args.text.now) * length cs ≤ c.args.pool.now.spare) c.capcodes.ensures.value (not_less _ _ (λ h. (let e = c.in-Ok-put_all.ensures.full.1 h in absurd cc))))
    (subst (λ (f : Function). Gains c.args.pool.now c.put_all.new.self (pages_to c.args.target.now.capcodes f c.args.text.now)) c.function-in-Ok.ensures
    (subst (λ cs. Gains c.args.pool.now c.put_all.new.self (pages_to cs c.function-in-Ok.result c.args.text.now)) c.capcodes.ensures.value c.in-Ok-put_all.ensures.put))

pub returns-in-Err-put_all-clause-done : goal.returns-in-Err-put_all-clause-done
returns-in-Err-put_all-clause-done c =
    full_done c.args.target.now c.args.text.now c.args.pool.now c.put_all.new.self
    (subst (λ (f : Function). Fits f c.args.text.now) c.function.ensures (c.in-Ok.ensures.fits.0 refl))
    (subst (λ cs. c.args.pool.now.spare < cells_for (length c.args.text.now) * length cs) c.capcodes.ensures.value (c.in-Err-put_all.ensures.full.0 refl)) c.in-Err-put_all.ensures.unchanged
