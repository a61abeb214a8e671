-- How many samples bits have.
use Rattle.std.proofs.Common.{◌≡◌, ℕ, suc, ◌+◌, ◌-◌, ◌*◌, ◌%◌, ◌≤◌, Bool, true, false, cond, List, [], ◌∷◌, length, length-append, replicate, refl, ◌∙◌, ap, arith}
use Rattle.std.proofs.lemmas.List.{length-replicate}
use Rattle.std.specs.Bool.{beq}
use Rattle.rand_pcg.specs.Lcg.{Lcg, increment_of, started}
use Rattle.rand_pcg.specs.Pcg.{multiplier_64, pcg32}
use Rattle.sampler.specs.Line.{total}
use Rattle.sampler.specs.Runs.{Apart, Run, runs, with_bit}
use Rattle.sampler.specs.Strayed.{edge_after, strayed, strayed_runs}
use Rattle.sampler.proofs.Line.{runs-apart}

total-with_bit : (b : Bool) (rs : List Run) → total (with_bit b rs) ≡ suc (total rs)
total-with_bit b [] = refl
total-with_bit b (r ∷ rs) = elim (beq b r.value) as (λ (same : Bool). total (cond same (record { value = b; count = suc r.count } ∷ rs) (record { value = b; count = 1 } ∷ r ∷ rs)) ≡ suc (total (r ∷ rs))) [
  | true ↦ omega arith
  | false ↦ omega arith
]

-- runs have as many bits as the list that they are of
total-runs : (bits : List Bool) → total (runs bits) ≡ length bits
unfolding runs
total-runs [] = refl
total-runs (b ∷ bits) = total-with_bit b (runs bits) ∙ ap suc (total-runs bits)

length-strayed_runs : (generator : Lcg) (bits place : ℕ) (r : Run) (rs : List Run) → Apart (r ∷ rs) → place ≤ 8 * bits + 1 → length (strayed_runs generator bits place (r ∷ rs)) + place ≡ 8 * (bits + total (r ∷ rs))
unfolding strayed_runs
length-strayed_runs generator bits place r [] apart near = omega (arith, length-replicate (8 * (bits + r.count) - place) r.value, apart.0, near)
length-strayed_runs generator bits place r (next ∷ rs) apart near =
    let to = edge_after (bits + r.count) generator in
    let moved = (pcg32 generator).0 % 3 in
    let above : to ≤ 8 * (bits + r.count) + 1 = omega arith in
    let below : 8 * (bits + r.count) ≤ to + 1 = omega arith in
    let first = replicate (to - place) r.value in
    let others = strayed_runs (pcg32 generator).1 (bits + r.count) to (next ∷ rs) in
    let rest = length-strayed_runs (pcg32 generator).1 (bits + r.count) to next rs apart.2 above in
    omega (arith, length-append first others, length-replicate (to - place) r.value, rest, below, apart.0, near)

of_runs : (generator : Lcg) (rs : List Run) → Apart rs → length (strayed_runs generator 0 0 rs) ≡ 8 * total rs
unfolding strayed_runs
of_runs generator [] apart = refl
of_runs generator (r ∷ rs) apart = let h = length-strayed_runs generator 0 0 r rs apart (omega arith) in omega (arith, h)

-- eight samples for each bit
pub length-strayed : (bits : List Bool) (seed : ℕ) → length (strayed bits seed) ≡ 8 * length bits
unfolding strayed
length-strayed bits seed = of_runs (started 64 multiplier_64 seed (increment_of 64 1)) (runs bits) (runs-apart bits) ∙ ap (λ (n : ℕ). 8 * n) (total-runs bits)
