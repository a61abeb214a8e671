use Rattle.std.proofs.Common.{◌≡◌, Bool, IsTrue, true, false, sym, ◌∙◌, eq-eqb, eqb-true, inl, inr}
use Rattle.scheduler.proofs.Ended.{no_pages, no_live, at_end, ended}
use Rattle.scheduler.proofs.sendings.Sending.is_done.Goals as goal

-- a test that passes
from : {b : Bool} → IsTrue b → b ≡ true
from h = h

to : {b : Bool} → b ≡ true → IsTrue b
to h = h

not_true : {A : Type 0} → IsTrue false → A
not_true h = absurd (cc)

pub returns-then-self-eq0-clause-end : goal.returns-then-self-eq0-clause-end
returns-then-self-eq0-clause-end c = (
  λ h. at_end c.args.pool.now _ _ c.in-Idle.is c.if-self-eq0.true (no_pages c.args.pool.now (sym c.count.ensures.count ∙ eqb-true _ _ (from h))),
  λ e. to (eq-eqb _ _ (c.count.ensures.count ∙ no_live c.args.pool.now (ended c.args.pool.now _ _ _ c.requires.in_batch c.requires.in_run e).none)),
)

pub returns-then-self-eq0-clause-empty : goal.returns-then-self-eq0-clause-empty
returns-then-self-eq0-clause-empty c = λ h. no_pages c.args.pool.now (sym c.count.ensures.count ∙ eqb-true _ _ (from h))

pub returns-else-self-eq0-clause-end : goal.returns-else-self-eq0-clause-end
returns-else-self-eq0-clause-end c =
    (λ h. absurd (c.if-self-eq0.false (eqb-true _ _ (from h))), λ e. absurd (c.if-self-eq0.false (ended _ _ _ _ c.requires.in_batch c.requires.in_run e).at))

pub returns-in-RunEnd : goal.returns-in-RunEnd
returns-in-RunEnd c = record {
  end = (
    λ h. not_true h,
    λ e. absurd (let i = (ended _ _ _ _ c.requires.in_batch c.requires.in_run e).idle in
        elim c.in-RunEnd.is [ inl h ↦ let x = sym i ∙ h in cc | inr h ↦ let x = sym i ∙ h.2 in cc ]),
  );
  empty = λ h. not_true h;
}
