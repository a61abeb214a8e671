-- What types tell that work on samples.
use Rattle.std.specs.Prelude.{◌≡◌, ℕ, IfOk, IsOk, IsTrue, OnOk, Result, ◌+◌, ◌/◌, ◌%◌, ◌||◌, nat_lt, Bool, true, false, List, [], ◌∷◌, ◌++◌, drop, is_some, length, replicate, take, Option, Some, None, if◌then◌else◌}
use Rattle.std.specs.Bool.{beq}
use Rattle.std.specs.Borrow.{GName}
use Rattle.rand_pcg.specs.Lcg.{Lcg}
use Rattle.rand_pcg.specs.Pcg.{pcg32}
use Rattle.wires.specs.Causes.{HasCause}
use Rattle.wires.specs.Held.{Held, Follows, Lent}
use Rattle.wires.specs.Left.{Left}
use Rattle.wires.specs.Stacked.{some_or}
use Rattle.sampler.specs.Runs.{runs, sampled_bits}
use Rattle.sampler.specs.Strayed.{strayed_runs}
use Rattle.sampler.specs.declared.sampling.Ahead.{Ahead}
use Rattle.sampler.specs.declared.sampling.Ahead.TheVariants.{Unread, Bit, End}

-- bits that were read ahead, and then those that are left below
abbrev pub ready_over : List Bool → Left Bool → Left Bool
ready_over ready below = record {
  tells = below.tells;
  left = ready ++ below.left;
  there = some_or ready below.there;
  steady = below.steady;
  faults = below.faults;
  lent = below.lent;
}

-- the bits of samples after so many equal ones, but for the bits that those already gave
abbrev pub bits_after : Bool → ℕ → List Bool → List Bool
bits_after last count samples = drop ((count + 4) / 8) (sampled_bits (replicate count last ++ samples))

-- samples that were read and are not counted yet, the sample that was counted last, and how many samples, modulo 8, came since the last edge
pub record Counted : Type 0 where
  pub ready : List Bool
  pub last : Bool
  pub count : ℕ

-- the bits of what was counted, of the samples that are ready, and of further ones
abbrev pub counted_bits : Counted → List Bool → List Bool
counted_bits c samples = bits_after c.last c.count (c.ready ++ samples)

-- whether a sample follows after so many of those that are left: known where it was asked for, and where the content is told
abbrev pub follows_after : ℕ → Option Bool → Bool → List Bool → Bool
follows_after limit further false left = false
follows_after limit (Some b) true left = b
follows_after limit None true left = nat_lt limit (length left)

-- a source that was lent under this name
abbrev pub lent_source : GName → Left Bool → Left Bool
lent_source name below = record {
  tells = below.tells;
  left = below.left;
  there = below.there;
  steady = below.steady;
  faults = below.faults;
  lent = Lent name ∷ below.lent;
}

-- the bits of samples: of those that were read ahead, and then of the first of the samples left, of which so many may still be read. After
-- the further sample was asked for, nothing more is read. Whether there is a further sample stays in what is held
abbrev pub sampled_over : Counted → ℕ → Option Bool → Left Bool → Left Bool
sampled_over c limit further samples = record {
  tells = samples.tells;
  left = counted_bits c (take limit samples.left);
  there = is_some further || some_or c.ready samples.there;
  steady = samples.steady;
  faults = samples.faults;
  lent = Follows (follows_after limit further samples.tells samples.left) ∷ samples.lent;
}

-- whether a sample follows after the limit, of what the bits of samples hold
abbrev pub follows : List Held → Bool
follows (Follows b ∷ held) = b
follows _ = false

-- the bits that are left, with the one that was read ahead of its samples
abbrev pub ahead_bits : Ahead → List Bool → List Bool
ahead_bits Unread bits = bits
ahead_bits (Bit b) bits = b ∷ bits
ahead_bits End bits = []

-- whether the first bit was asked for
abbrev pub was_read : Ahead → Bool
was_read Unread = false
was_read (Bit b) = true
was_read End = true

-- what is read ahead after an answer
abbrev pub ahead_of : Option Bool → Ahead
ahead_of (Some b) = Bit b
ahead_of None = End

-- how far, plus one, the end of a bit's samples is moved before this one, and the generator after it: only edges are moved
abbrev pub moved : Lcg → Bool → Option Bool → ℕ × Lcg
moved generator value None = (1, generator)
moved generator value (Some b) = if beq value b then (1, generator) else ((pcg32 generator).0 % 3, (pcg32 generator).1)

-- some samples of the bit that was begun, and then those of the bits ahead
abbrev pub samples_of : ℕ → Bool → Lcg → ℕ → Ahead → List Bool → List Bool
samples_of pending value generator stray ahead bits = replicate pending value ++ strayed_runs generator 1 (7 + stray) (runs (ahead_bits ahead bits))

-- the samples of bits: some of the bit that was begun, and then those of the bits ahead, as if one bit's samples had come before them whose end was moved so far, plus one
abbrev pub sampling_over : ℕ → Bool → Lcg → ℕ → Ahead → Left Bool → Left Bool
sampling_over pending value generator stray ahead bits = record {
  tells = bits.tells;
  left = samples_of pending value generator stray ahead bits.left;
  there = nat_lt 0 pending || (was_read ahead || bits.there);
  steady = bits.steady;
  faults = bits.faults;
  lent = bits.lent;
}

-- all bits that are left are passed over, and it is answered whether a sample follows after the limit. It fails in no steady object
pub record PassesAll {E : Type 0} (old new : Left Bool) (result : Result Bool E) : Type 0 where
  pub tells : new.tells ≡ old.tells
  pub left : IsTrue old.tells → OnOk result (new.left ≡ [])
  pub follows : IsTrue old.tells → IfOk result (λ more. more ≡ follows old.lent)
  pub there : IsTrue old.tells → OnOk result (IsTrue old.there)
  pub steady : IsTrue old.tells → IsTrue old.steady → IsOk result × IsTrue new.steady
  pub faults : HasCause old.faults new.faults result
  pub lent : new.lent ≡ old.lent
