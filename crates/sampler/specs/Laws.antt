-- What is so of every line.
use Rattle.std.specs.Prelude.{◌≡◌, ℕ, Bool, List}
use Rattle.sampler.specs.Line.{IsLine}
use Rattle.sampler.specs.Runs.{Apart, Run, runs, spread, NoneLonger, sampled_bits}
use Rattle.sampler.specs.Strayed.{strayed}

-- the bits of a line are those that it was made of, where no run of them is longer than 127
abbrev pub LineBack : Type 0
LineBack = (bits samples : List Bool) → IsLine bits samples → NoneLonger 127 bits → sampled_bits samples ≡ bits

-- bits with strayed edges are a line of them, at the rate of eight samples a bit
abbrev pub StrayedIsLine : Type 0
StrayedIsLine = (bits : List Bool) (seed : ℕ) → (line : IsLine bits (strayed bits seed)) × (line.rate ≡ 8192)

-- the runs of bits are the only ones, none empty and neighbours different, whose bits these are
abbrev pub RunsAreMaximal : Type 0
RunsAreMaximal = (bits : List Bool) → Apart (runs bits) × (spread (runs bits) ≡ bits) × ((rs : List Run) → Apart rs → spread rs ≡ bits → runs bits ≡ rs)
