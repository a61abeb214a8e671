-- Runs of equal bits, and the bits of a line of eight samples a bit.
use Rattle.std.specs.Prelude.{◌≡◌, ℕ, suc, ◌+◌, ◌/◌, ◌<◌, ◌≤◌, Bool, false, List, [], ◌∷◌, replicate, flat_map, All, if◌then◌else◌}
use Rattle.std.specs.Bool.{beq}

-- equal bits one after another
pub record Run : Type 0 where
  pub value : Bool
  pub count : ℕ

-- the runs after one more bit in front of them: it joins the first run where it is equal to it
abbrev pub with_bit : Bool → List Run → List Run
with_bit b [] = record { value = b; count = 1 } ∷ []
with_bit b (r ∷ rs) = if beq b r.value then (record { value = b; count = suc r.count } ∷ rs) else (record { value = b; count = 1 } ∷ r ∷ rs)

-- the maximal runs of equal bits, in order
unfoldable pub runs : List Bool → List Run
runs [] = []
runs (b ∷ bs) = with_bit b (runs bs)

-- the bits that a run of samples stands for
abbrev pub run_bits : Run → List Bool
run_bits r = replicate ((r.count + 4) / 8) r.value

-- the bits of samples: for each maximal run, an eighth of its length, rounded to the nearest
unfoldable pub sampled_bits : List Bool → List Bool
sampled_bits samples = flat_map run_bits (runs samples)

-- no run is longer than this
abbrev pub NoneLonger : ℕ → List Bool → Type 0
NoneLonger most bits = All (λ r. r.count ≤ most) (runs bits)

-- the first run has another value than this
abbrev pub Other : Bool → List Run → Type 0
Other v [] = Unit
Other v (r ∷ rs) = beq v r.value ≡ false

-- no run is empty, and neighbours have different values
abbrev pub Apart : List Run → Type 0
Apart [] = Unit
Apart (r ∷ rs) = (0 < r.count) × Other r.value rs × Apart rs

-- the bits of runs
abbrev pub spread : List Run → List Bool
spread rs = flat_map (λ (r : Run). replicate r.count r.value) rs
