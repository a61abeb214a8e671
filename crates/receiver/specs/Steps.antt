-- What one more bit does to a hunt and to a lock.
use Rattle.std.specs.Prelude.{◌≡◌, ℕ, ◌<◌, ◌^◌, ◌%◌, Bool, true, false, List, [], ◌∷◌, ◌++◌, length, Some}
use Rattle.codeword.specs.declared.batches.TheConstants.{BATCH_WORDS, SLOTS}
use Rattle.receiver.specs.Stretches.{after_sync, after_loss, held_words, words_of_bits}
use Rattle.receiver.specs.Locks.{Hunts, LockHolds}
use Rattle.wires.specs.Pieces.{taken_of}
use Rattle.receiver.specs.declared.front.HuntStep.{HuntStep}
use Rattle.receiver.specs.declared.front.HuntStep.TheVariants.{Still as HuntStill, Found}
use Rattle.receiver.specs.declared.front.LockStep.{LockStep}
use Rattle.receiver.specs.declared.front.LockStep.TheVariants.{Still, Slot, Batch, Lost}

-- the hunt over these bits has found nothing yet, or a sync word with the last bit
abbrev pub HuntGoesOn : HuntStep → List Bool → Type 0
HuntGoesOn (HuntStill hunting) bits = Hunts hunting bits
HuntGoesOn (Found locked) bits = (after_sync bits ≡ Some []) × LockHolds locked []

-- a hunt that keeps these bits takes more, finds nothing, and keeps the last of them
abbrev pub HuntsOn : List Bool → List Bool → List Bool → Type 0
HuntsOn kept next more = (bits : List Bool) → Hunts kept bits → Hunts next (bits ++ more)

-- a hunt that keeps these bits finds a sync word with the last of further ones
abbrev pub Finds : List Bool → List Bool → Type 0
Finds kept more = (bits : List Bool) → Hunts kept bits → after_sync (bits ++ more) ≡ Some []

-- a hunt takes a piece, up to a sync word or to the end
pub record HuntsThrough (kept next piece left : List Bool) (found : Bool) : Type 0 where
  pub whole : piece ≡ taken_of piece left ++ left
  pub on : found ≡ false → HuntsOn kept next (taken_of piece left) × (left ≡ [])
  pub finds : found ≡ true → Finds kept (taken_of piece left) × (length left < length piece)

-- one more word is whole: this one
abbrev pub HasOneMore : ℕ → List Bool → List Bool → Type 0
HasOneMore word old bits = words_of_bits bits ≡ words_of_bits old ++ word ∷ []

-- The lock over `old` went on by one bit: no word is whole with it, or it completes the word of a slot, a word at a sync place that
-- is near the sync word, or one that isn't, with which the lock is lost.
abbrev pub LockGoesOn : LockStep → List Bool → List Bool → Type 0
LockGoesOn (Still locked) old bits = LockHolds locked bits × (words_of_bits bits ≡ words_of_bits old)
LockGoesOn (Slot locked place word) old bits = LockHolds locked bits × HasOneMore word old bits × (length (words_of_bits old) % BATCH_WORDS ≡ place) × (place < SLOTS) × (word < 2 ^ 32)
LockGoesOn (Batch locked) old bits = LockHolds locked bits × (word : ℕ) × HasOneMore word old bits × (length (words_of_bits old) % BATCH_WORDS ≡ SLOTS)
LockGoesOn (Lost hunting) old bits = Hunts hunting [] × (after_loss bits ≡ Some []) × (held_words bits ≡ words_of_bits old)

-- a slot has a place from 0 to 15
abbrev pub HasSlotPlace : LockStep → Type 0
HasSlotPlace (Still locked) = Unit {0}
HasSlotPlace (Slot locked place word) = place < SLOTS
HasSlotPlace (Batch locked) = Unit {0}
HasSlotPlace (Lost hunting) = Unit {0}
