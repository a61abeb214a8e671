-- What is heard in a list of bits: stretches of lock, and their words. docs/profile.md, "lock".
use Rattle.std.specs.Prelude.{ℕ, zero, suc, ◌*◌, ◌/◌, ◌%◌, ◌==◌, Bool, true, false, ◌&&◌, nat_le, List, [], ◌∷◌, length, take, drop, Option, Some, None, option_map}
use Rattle.bits.specs.Bits.{word_bits, number, dist}
use Rattle.codeword.specs.declared.batches.TheConstants.{BATCH_WORDS, SLOTS}
use Rattle.codeword.specs.declared.words.TheConstants.{SYNC}

-- the bits differ from those of the sync word in at most two places
abbrev pub near_sync : List Bool → Bool
near_sync bits = nat_le (dist bits (word_bits SYNC)) 2

-- the bits begin with 32 that are near the sync word
abbrev pub begins_with_sync : List Bool → Bool
begins_with_sync bits = nat_le 32 (length bits) && near_sync (take 32 bits)

-- the value where the test holds, and else the other
abbrev pub value_or : {X : Type 0} → Bool → X → Option X → Option X
value_or true x other = Some x
value_or false x other = other

-- what follows the first 32 bits that are near the sync word
unfoldable pub after_sync : List Bool → Option (List Bool)
after_sync [] = None
after_sync (b ∷ bits) = value_or (begins_with_sync (b ∷ bits)) (drop 31 bits) (after_sync bits)

-- the first n words of the bits
unfoldable pub first_words : ℕ → List Bool → List ℕ
first_words zero bits = []
first_words (suc n) bits = number (take 32 bits) ∷ first_words n (drop 32 bits)

-- the bits cut into whole words
abbrev pub words_of_bits : List Bool → List ℕ
words_of_bits bits = first_words (length bits / 32) bits

-- of the words of a lock, counted from 0, each 17th is at a sync place
abbrev pub is_sync_place : ℕ → Bool
is_sync_place k = k % BATCH_WORDS == SLOTS

-- the word is near the sync word
abbrev pub is_sync : ℕ → Bool
is_sync word = near_sync (word_bits word)

-- a word at a sync place or not, near the sync word or not, and the words after it
abbrev pub held_with : Bool → Bool → ℕ → List ℕ → List ℕ
held_with false good word later = word ∷ later
held_with true true word later = word ∷ later
held_with true false word later = []

-- The words of a lock from the number k on: those before the first at a sync place that isn't near the sync word, or all.
unfoldable pub held_from : ℕ → List ℕ → List ℕ
held_from k [] = []
held_from k (word ∷ words) = held_with (is_sync_place k) (is_sync word) word (held_from (suc k) words)

-- the words of the lock that these bits follow
abbrev pub held_words : List Bool → List ℕ
held_words bits = held_from 0 (words_of_bits bits)

-- a word at a sync place or not, near the sync word or not, and where the lock is lost behind it
abbrev pub loss_with : Bool → Bool → Option ℕ → Option ℕ
loss_with true false later = Some 1
loss_with true true later = option_map suc later
loss_with false good later = option_map suc later

-- The words of a lock from the number k on: how many there are up to and with the first at a sync place that isn't near the
-- sync word.
unfoldable pub loss_from : ℕ → List ℕ → Option ℕ
loss_from k [] = None
loss_from k (word ∷ words) = loss_with (is_sync_place k) (is_sync word) (loss_from (suc k) words)

-- what follows the word at which this lock is lost
abbrev pub after_loss : List Bool → Option (List Bool)
after_loss bits = option_map (λ n. drop (32 * n) bits) (loss_from 0 (words_of_bits bits))

-- the stretches behind a loss of lock, if there is one
abbrev pub later_with : (List Bool → List (List ℕ)) → Option (List Bool) → List (List ℕ)
later_with later None = []
later_with later (Some more) = later more

-- the stretch from a lock on, and those after it
abbrev pub stretches_with : (List Bool → List (List ℕ)) → Option (List Bool) → List (List ℕ)
stretches_with later None = []
stretches_with later (Some rest) = held_words rest ∷ later_with later (after_loss rest)

-- the first stretches, at most n
unfoldable pub first_stretches : ℕ → List Bool → List (List ℕ)
first_stretches zero bits = []
first_stretches (suc n) bits = stretches_with (first_stretches n) (after_sync bits)

-- The stretches of lock, each with its words: what follows the first 32 bits near the sync word, cut into words, up to the
-- first at a sync place that isn't near the sync word. The further stretches are those of the bits after that word.
unfoldable pub stretches : List Bool → List (List ℕ)
stretches bits = first_stretches (length bits) bits
