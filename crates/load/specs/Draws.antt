-- The numbers that are drawn. docs/profile.md, "load mode".
use Rattle.std.specs.Prelude.{ℕ}
use Rattle.rand_pcg.specs.Lcg.{Lcg, advance, increment_of, started}
use Rattle.rand_pcg.specs.Pcg.{multiplier_64, pcg32}

-- the generator of a seed after so many draws
unfoldable pub generator_at : ℕ → ℕ → Lcg
generator_at seed k = advance 64 multiplier_64 k (started 64 multiplier_64 seed (increment_of 64 1))

-- the draws of a seed, by number from 0: the words that its generator gives
unfoldable pub draw : ℕ → ℕ → ℕ
draw seed k = (pcg32 (generator_at seed k)).0
