-- The bits of samples are no more than the samples.
use Rattle.std.proofs.Common.{◌≡◌, ℕ, zero, suc, ◌+◌, ◌/◌, ◌≤◌, Bool, true, false, List, [], ◌∷◌, ◌++◌, length, length-append, replicate, take, refl, ◌∙◌, ap, arith}
use Rattle.std.proofs.lemmas.List.{length-replicate, length-take}
use Rattle.std.specs.Bool.{beq}
use Rattle.std.specs.List.{flat_map}
use Rattle.std.specs.Prelude.{if◌then◌else◌}
use Rattle.sampler.specs.Line.{total}
use Rattle.sampler.specs.Runs.{Run, run_bits, runs, sampled_bits, with_bit}
use Rattle.sampler.proofs.Runs.{run}

total-with_bit : (b : Bool) (rs : List Run) → total (with_bit b rs) ≡ suc (total rs)
total-with_bit b [] = refl
total-with_bit b (r ∷ rs) = elim (beq b r.value) as (λ c. total (if c then (run b (suc r.count) ∷ rs) else (run b 1 ∷ r ∷ rs)) ≡ suc (r.count + total rs)) [ true ↦ omega arith | false ↦ omega arith ]

total-runs : (bits : List Bool) → total (runs bits) ≡ length bits
unfolding runs
total-runs [] = refl
total-runs (b ∷ bits) = total-with_bit b (runs bits) ∙ ap (λ (n : ℕ). suc n) (total-runs bits)

eighth : (n : ℕ) → (n + 4) / 8 ≤ n
eighth zero = omega arith
eighth (suc n) = omega arith

few_of_runs : (rs : List Run) → length (flat_map run_bits rs) ≤ total rs
few_of_runs [] = omega arith
few_of_runs (r ∷ rs) =
    let h = few_of_runs rs in
    let e = eighth r.count in
    let a = length-append (run_bits r) (flat_map run_bits rs) in
    let b = length-replicate ((r.count + 4) / 8) r.value in
    omega (arith, h, e, a, b)

few_bits : (samples : List Bool) → length (sampled_bits samples) ≤ length samples
unfolding sampled_bits
few_bits samples = let h = few_of_runs (runs samples) in let e = total-runs samples in omega (arith, h, e)

pub few_of_first : (n : ℕ) (samples : List Bool) → length (sampled_bits (take n samples)) ≤ n
few_of_first n samples =
    let h = few_bits (take n samples) in
    let few : length (take n samples) ≤ n = simp length-take (omega arith) in
    omega (arith, h, few)
