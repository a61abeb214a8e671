-- The windows of a hunt over a preamble. docs/profile.md, "lock".
use Rattle.codeword.specs.Words.{filler}
use Rattle.std.specs.Prelude.{◌≡◌, ℕ, ◌≤◌, Bool, true, List, [], ◌∷◌, ◌++◌, length, replicate, Some}
use Rattle.bits.specs.Bits.{word_bits, words_bits, dist}
use Rattle.codeword.specs.declared.words.TheConstants.{SYNC}
use Rattle.receiver.specs.Stretches.{after_sync, is_sync_place, held_from, loss_from}

-- the last n words of a clean preamble: 18 are a whole one, of 576 bits
abbrev pub preamble_bits : ℕ → List Bool
preamble_bits n = words_bits (replicate n filler)

-- After a clean preamble, or any last words of one, the first 32 bits near the sync word are the word that follows, if it is within
-- two bits of the sync word: whatever comes behind it.
abbrev pub FindsSyncWord : Type 0
FindsSyncWord = (n : ℕ) (word rest : List Bool) → length word ≡ 32 → dist word (word_bits SYNC) ≤ 2
    → after_sync (preamble_bits n ++ (word ++ rest)) ≡ Some rest

-- AAAAAAAA at a sync place ends the stretch: neither it nor a word behind it is a word of the stretch, and the lock is lost with it.
abbrev pub FillerEnds : Type 0
FillerEnds = (k : ℕ) (words : List ℕ) → is_sync_place k ≡ true
    → (held_from k (filler ∷ words) ≡ []) × (loss_from k (filler ∷ words) ≡ Some 1)
