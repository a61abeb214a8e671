-- The slots of a stretch of lock, and the table of what was heard.
use Rattle.std.specs.Prelude.{ℕ, suc, ◌%◌, Bool, true, false, List, [], ◌∷◌, length, flat_map}
use Rattle.codeword.specs.declared.batches.TheConstants.{BATCH_WORDS}
use Rattle.receiver.specs.Stretches.{is_sync_place, stretches}

-- a word at a sync place or not, and the slots behind it
abbrev pub slots_with : Bool → ℕ → List ℕ → List ℕ
slots_with false word later = word ∷ later
slots_with true word later = later

-- the slots among the words of a stretch, from the number k on: those at no sync place
unfoldable pub slots_from : ℕ → List ℕ → List ℕ
slots_from k [] = []
slots_from k (word ∷ words) = slots_with (is_sync_place k) word (slots_from (suc k) words)

-- the slots of a stretch
abbrev pub stretch_slots : List ℕ → List ℕ
stretch_slots words = slots_from 0 words

-- how many slots are heard in the bits
abbrev pub slots_in : List Bool → ℕ
slots_in bits = length (flat_map stretch_slots (stretches bits))

-- a line of the table: a sync word that was found or was good at its place, or a slot with its place from 0 to 15 and its word as heard
pub data TableEntry : Type 0 where
  Batch : TableEntry
  Slot : ℕ → ℕ → TableEntry

-- the entry of a word at a sync place or not
abbrev pub entry_with : Bool → ℕ → ℕ → TableEntry
entry_with false place word = Slot place word
entry_with true place word = Batch

-- the entries of the words of a stretch, from the number k on
unfoldable pub entries_from : ℕ → List ℕ → List TableEntry
entries_from k [] = []
entries_from k (word ∷ words) = entry_with (is_sync_place k) (k % BATCH_WORDS) word ∷ entries_from (suc k) words

-- the entries of a stretch: the sync word that was found, and its words
abbrev pub stretch_entries : List ℕ → List TableEntry
stretch_entries words = Batch ∷ entries_from 0 words

-- the table of what is heard in the bits
abbrev pub entries : List Bool → List TableEntry
entries bits = flat_map stretch_entries (stretches bits)
