-- What a hunt and a lock stand for.
use Rattle.std.specs.Prelude.{◌≡◌, ℕ, ◌*◌, ◌/◌, ◌%◌, Bool, List, length, drop, None}
use Rattle.codeword.specs.declared.batches.TheConstants.{BATCH_WORDS}
use Rattle.receiver.specs.Registers.{last_32}
use Rattle.receiver.specs.Stretches.{after_sync, after_loss}

-- what a lock keeps: the place of its next word, from 0 to 16, and the bits of that word that have come
pub record Lock : Type 0 where
  pub place : ℕ
  pub partial : List Bool

-- a lock, of its parts
abbrev pub lock_of : ℕ → List Bool → Lock
lock_of place partial = record { place = place; partial = partial }

-- a hunt over these bits has found nothing, and keeps the last of them
pub record Hunts (kept bits : List Bool) : Type 0 where
  pub last : kept ≡ last_32 bits
  pub none : after_sync bits ≡ None

-- a lock over these bits wasn't lost
pub record LockHolds (lock : Lock) (bits : List Bool) : Type 0 where
  pub place : lock.place ≡ length bits / 32 % BATCH_WORDS
  pub partial : lock.partial ≡ drop (32 * (length bits / 32)) bits
  pub held : after_loss bits ≡ None
