-- The words of a window of 64 bits, and their wrong bits.
use Rattle.std.specs.Prelude.{◌≡◌, ◌≢◌, ℕ, ◌+◌, ◌-◌, ◌/◌, ◌%◌, ◌^◌, ◌≤◌, ◌<◌, false}
use Rattle.std.specs.Int.{bit_at}
use Rattle.codeword.specs.declared.words.TheConstants.{SYNC}
use Rattle.receiver.specs.Stretches.{is_sync}

-- the word that so many bits of a window follow
abbrev pub word_before : ℕ → ℕ → ℕ
word_before window behind = window / 2 ^ behind % 4294967296

-- of the words that end in the last `count` bits of a window, none of the first n is near the sync word
abbrev pub NoSyncBefore : ℕ → ℕ → ℕ → Type 0
NoSyncBefore window count n = (k : ℕ) → k < n → is_sync (word_before window (count - 1 - k)) ≡ false

-- The word whose bit `first` stands at this place of the window differs from the sync word in one of its bits from `first` on and
-- below `end`.
pub record HasWrongBit (window place first end : ℕ) : Type 0 where
  pub at : ℕ
  pub from : first ≤ at
  pub below : at < end
  pub differs : bit_at window (place + (at - first)) ≢ bit_at SYNC at
