-- The generator after one draw more.
use Rattle.std.proofs.Common.{◌≡◌, ℕ, zero, suc, ◌+◌, add-one, refl, sym, ap, ◌∙◌}
use Rattle.rand_pcg.specs.Lcg.{Lcg, advance, increment_of, next, next_state, started, state_after}
use Rattle.rand_pcg.specs.Pcg.{multiplier_64, pcg32}
use Rattle.load.specs.Draws.{draw, generator_at}

state_after-last : (w m increment k state : ℕ) → state_after w m increment (suc k) state ≡ next_state w m increment (state_after w m increment k state)
unfolding state_after
state_after-last w m increment zero state = refl
state_after-last w m increment (suc k) state = state_after-last w m increment k (next_state w m increment state)

advance-last : (w m k : ℕ) (g : Lcg) → next w m (advance w m k g) ≡ advance w m (suc k) g
advance-last w m k g = ap (λ s. let h : Lcg = record { state = s; increment = g.increment } in h) (sym (state_after-last w m g.increment k g.state))

pub generator_at-zero : (seed : ℕ) → started 64 multiplier_64 seed (increment_of 64 1) ≡ generator_at seed 0
unfolding generator_at state_after
generator_at-zero seed = refl

pub generator_at-more : (seed k : ℕ) (g : Lcg) → g ≡ generator_at seed k → next 64 multiplier_64 g ≡ generator_at seed (k + 1)
unfolding generator_at
generator_at-more seed k g h =
    ap (next 64 multiplier_64) h ∙ advance-last 64 multiplier_64 k (started 64 multiplier_64 seed (increment_of 64 1)) ∙ ap (generator_at seed) (sym (add-one k))

pub draw-at : (seed k : ℕ) (g : Lcg) → g ≡ generator_at seed k → (pcg32 g).0 ≡ draw seed k
unfolding draw
draw-at seed k g h = ap (λ x. (pcg32 x).0) h
