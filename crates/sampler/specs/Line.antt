-- Lines of about eight samples a bit.
use Rattle.std.specs.Prelude.{◌≡◌, ℕ, suc, ◌+◌, ◌*◌, ◌<◌, ◌≤◌, Bool, false, List, [], ◌∷◌, length, get_or, take}
use Rattle.sampler.specs.Runs.{Run, runs}

-- two numbers that differ by at most this
pub record Within (most a b : ℕ) : Type 0 where
  pub below : a ≤ b + most
  pub above : b ≤ a + most

-- how many bits these runs have
abbrev pub total : List Run → ℕ
total [] = 0
total (r ∷ rs) = r.count + total rs

-- the value of the run of this number, counted from 0
abbrev pub value_at : ℕ → List Run → Bool
value_at j rs = (get_or rs j (record { value = false; count = 0 })).value

-- these samples are a line of these bits. Edge j of it stands at place j, where edge 0 is the start, and edge j ends the j-th run. All samples between two edges are equal to the bit of their run. The rate is the number of samples of 1024 bits, and no edge strays from it by more than one sample
pub record IsLine (bits samples : List Bool) : Type 0 where
  pub rate : ℕ
  pub slowest : 8176 ≤ rate
  pub fastest : rate ≤ 8208
  pub place : ℕ → ℕ
  pub start : place 0 ≡ 0
  pub end : place (length (runs bits)) ≡ length samples
  pub rises : (j : ℕ) → j < length (runs bits) → place j < place (suc j)
  pub equal : (j i : ℕ) → j < length (runs bits) → place j ≤ i → i < place (suc j) → get_or samples i false ≡ value_at j (runs bits)
  pub strays : (j : ℕ) → j ≤ length (runs bits) → Within 1024 (1024 * place j) (rate * total (take j (runs bits)))
