-- Bits that were listened to through a noise, and what was printed of them.
use Rattle.std.specs.Prelude.{◌≡◌, ◌≢◌, ℕ, ◌≤◌, ◌<◌, Bool, true, false, List, [], ◌++◌, length, replicate, Result, Ok, Err, IsTrue}
use Rattle.wires.specs.Left.{Left, Took}
use Rattle.wires.specs.Stacked.{noisy_bits}
use Rattle.wires.specs.Written.{Written}
use Rattle.endings.specs.declared.statuses.Status.{Status}
use Rattle.endings.specs.declared.statuses.Status.TheVariants.{Done, FileFault, OutFault}
use Rattle.listening.specs.Listening.{FailedAfter}
use Rattle.endings.specs.Wrote.{Wrote, WroteFront}

-- all bits are 0
abbrev pub AreZero : List Bool → Type 0
AreZero bits = bits ≡ replicate (length bits) false

-- The next bits of a noise were given, by whether the noise had ended before and has ended now. Behind its end all bits are 0, and up to it
-- the noise is there.
abbrev pub NoiseGives : {E : Type 0} → Bool → Bool → Left Bool → Left Bool → Result (List Bool) E → Type 0
NoiseGives false false old new (Ok bits) = Took old new bits × (IsTrue old.tells → IsTrue old.there)
NoiseGives false true old new (Ok bits) = AreZero bits × Took old new [] × (IsTrue old.tells → new.left ≡ []) × (IsTrue old.tells → IsTrue old.there)
NoiseGives true true old new (Ok bits) = AreZero bits × (new ≡ old)
NoiseGives true false old new (Ok bits) = ⊥
NoiseGives false after old new (Err _) = FailedAfter old new []
NoiseGives true after old new (Err _) = ⊥

-- All bits were heard, each xor the noise's bit, and what they give was printed. Where there are any, the noise was there. As many bits of
-- the noise were read, or all that it had, and where there are no bits it is as before.
pub record HeardThrough (printed : List Bool → List ℕ) (bits : List Bool) (old new : Left Bool) (out0 out : Written ℕ) : Type 0 where
  pub noise : List Bool
  pub took : Took old new noise
  pub of_all : IsTrue old.tells → noisy_bits bits noise ≡ noisy_bits bits old.left
  pub there : IsTrue old.tells → bits ≢ [] → IsTrue old.there
  pub wrote : Wrote out0 out (printed (noisy_bits bits noise))
  pub few : length noise ≤ length bits
  pub fewer : IsTrue old.tells → length noise < length bits → new.left ≡ []
  pub untouched : bits ≡ [] → new ≡ old

-- The noise failed for a bit that was to be heard. What the bits before give was printed, and as many bits of the noise were read. Where there
-- are any, the noise was there.
pub record NoiseFailed (printed : List Bool → List ℕ) (bits : List Bool) (old new : Left Bool) (out0 out : Written ℕ) : Type 0 where
  pub heard : List Bool
  pub rest : List Bool
  pub bits_are : bits ≡ heard ++ rest
  pub noise : List Bool
  pub failed : FailedAfter old new noise
  pub of_noise : IsTrue old.tells → noisy_bits heard noise ≡ noisy_bits heard old.left
  pub there : IsTrue old.tells → heard ≢ [] → IsTrue old.there
  pub wrote : Wrote out0 out (printed (noisy_bits heard noise))
  pub as_many : length noise ≡ length heard
  pub more : 0 < length rest

-- A write failed, after a front of what the bits give that were heard, of which there are some. The noise was there, and as many of its bits
-- were read, or all that it had.
pub record HeardUnprinted (printed : List Bool → List ℕ) (bits : List Bool) (old new : Left Bool) (out0 out : Written ℕ) : Type 0 where
  pub heard : List Bool
  pub rest : List Bool
  pub bits_are : bits ≡ heard ++ rest
  pub noise : List Bool
  pub took : Took old new noise
  pub of_noise : IsTrue old.tells → noisy_bits heard noise ≡ noisy_bits heard old.left
  pub there : IsTrue old.tells → heard ≢ [] → IsTrue old.there
  pub wrote : WroteFront out0 out (printed (noisy_bits heard noise))
  pub few : length noise ≤ length heard
  pub fewer : IsTrue old.tells → length noise < length heard → new.left ≡ []
  pub some : 0 < length heard

-- what was heard through a noise and printed, by status
abbrev pub ListensThrough : (List Bool → List ℕ) → List Bool → Left Bool → Left Bool → Written ℕ → Written ℕ → Status → Type 0
ListensThrough printed bits old new out0 out Done = HeardThrough printed bits old new out0 out
ListensThrough printed bits old new out0 out FileFault = NoiseFailed printed bits old new out0 out
ListensThrough printed bits old new out0 out OutFault = HeardUnprinted printed bits old new out0 out
ListensThrough printed bits old new out0 out other = ⊥

-- what the noise has been: of its bits as many as were heard, or all, which shows once a bit is heard
abbrev pub NoiseSoFar : Bool → Left Bool → List Bool → List Bool → Type 0
NoiseSoFar false now heard noise = length noise ≡ length heard
NoiseSoFar true now heard noise = (length noise ≤ length heard) × (IsTrue now.tells → now.left ≡ []) × (0 < length heard)

-- Listening through a noise is under way. Before a bit is heard the noise is as before.
pub record ListeningThrough (printed : List Bool → List ℕ) (bits left : List Bool) (ended : Bool) (old now : Left Bool) (out0 out : Written ℕ) : Type 0 where
  pub heard : List Bool
  pub bits_are : bits ≡ heard ++ left
  pub noise : List Bool
  pub took : Took old now noise
  pub so_far : NoiseSoFar ended now heard noise
  pub there : IsTrue old.tells → 0 < length heard → IsTrue old.there
  pub wrote : Wrote out0 out (printed (noisy_bits heard noise))
  pub untouched : heard ≡ [] → now ≡ old

-- What hearing leaves of a source of bits: a rest, which is empty behind Done, and what it holds of others.
pub record LeavesBits (old new : Left Bool) (status : Status) : Type 0 where
  pub taken : List Bool
  pub left : old.left ≡ taken ++ new.left
  pub all : status ≡ Done → new.left ≡ []
  pub lent : new.lent ≡ old.lent
