-- What further bits do to a front end, and to what is heard.
use Rattle.std.specs.Prelude.{◌≡◌, ℕ, ◌+◌, ◌<◌, ◌%◌, Bool, List, [], ◌∷◌, ◌++◌, length, Option, Some, None}
use Rattle.codeword.specs.Kinds.{kind_of}
use Rattle.codeword.specs.declared.batches.TheConstants.{BATCH_WORDS, SLOTS}
use Rattle.receiver.specs.Slots.{TableEntry, Batch as BatchEntry, Slot as SlotEntry, entries, slots_in}
use Rattle.receiver.specs.Heard.{HeardPage, heard}
use Rattle.receiver.specs.UnderWay.{open_after, completed}
use Rattle.receiver.specs.Fronts.{FrontEnd, FrontIsAt, FrontStandsFor, HasUnderWay}
use Rattle.receiver.specs.declared.front.FrontEvent.{FrontEvent}
use Rattle.receiver.specs.declared.front.FrontEvent.TheVariants.{Still, Batch, Slot, Lost}

-- the entry that an event adds to the table
abbrev pub table_entry_of : FrontEvent → List TableEntry
table_entry_of Still = []
table_entry_of Batch = BatchEntry ∷ []
table_entry_of (Slot place word) = SlotEntry place word ∷ []
table_entry_of Lost = []

-- the front end was fed these bits, and the table has the entry of the event more than that of the old bits
pub record Shows (front : FrontEnd) (event : FrontEvent) (old bits : List Bool) : Type 0 where
  pub stands : FrontStandsFor front bits
  pub table : entries bits ≡ entries old ++ table_entry_of event

-- the page under way after an event
abbrev pub page_after : (ℕ → Bool) → Option HeardPage → FrontEvent → Option HeardPage
page_after listens page Still = page
page_after listens page Batch = page
page_after listens page (Slot place word) = open_after listens place page (kind_of word)
page_after listens page Lost = None

-- the page that an event completes
abbrev pub completed_by : Option HeardPage → FrontEvent → List HeardPage
completed_by page Still = []
completed_by page Batch = []
completed_by page (Slot place word) = completed page (kind_of word)
completed_by page Lost = []

-- one for the word of a slot
abbrev pub slots_by : FrontEvent → ℕ
slots_by Still = 0
slots_by Batch = 0
slots_by (Slot place word) = 1
slots_by Lost = 0

-- with this page under way at the old bits, what is heard in these
pub record HearsPage (listens : ℕ → Bool) (page : Option HeardPage) (front : FrontEnd) (event : FrontEvent) (old bits : List Bool) : Type 0 where
  pub stands : HasUnderWay listens front (page_after listens page event) bits
  pub pages : heard listens bits ≡ heard listens old ++ completed_by page event
  pub slots : slots_in bits ≡ slots_in old + slots_by event

-- a slot has a place from 0 to 15
abbrev pub HasFrontPlace : FrontEvent → Type 0
HasFrontPlace Still = Unit {0}
HasFrontPlace Batch = Unit {0}
HasFrontPlace (Slot place word) = place < SLOTS
HasFrontPlace Lost = Unit {0}

-- ---- the stretches, and the words of a lock

-- a lock begins, or has one more word at a sync place
abbrev pub HasSyncWord : Option (List ℕ) → Option (List ℕ) → Type 0
HasSyncWord None after = after ≡ Some []
HasSyncWord (Some words) after = (word : ℕ) × (after ≡ Some (words ++ word ∷ [])) × (length words % BATCH_WORDS ≡ SLOTS)

-- how an event takes these stretches and words of a lock to others
abbrev pub FrontMoves : FrontEvent → List (List ℕ) → Option (List ℕ) → List (List ℕ) → Option (List ℕ) → Type 0
FrontMoves Still before words before_after words_after = (before_after ≡ before) × (words_after ≡ words)
FrontMoves Batch before words before_after words_after = (before_after ≡ before) × HasSyncWord words words_after
FrontMoves (Slot place word) before words before_after words_after =
    (before_after ≡ before) × (lock_words : List ℕ) × (words ≡ Some lock_words) × (words_after ≡ Some (lock_words ++ word ∷ [])) × (length lock_words % BATCH_WORDS ≡ place) × (place < SLOTS)
FrontMoves Lost before words before_after words_after = (lock_words : List ℕ) × (words ≡ Some lock_words) × (before_after ≡ before ++ lock_words ∷ []) × (words_after ≡ None)

-- where the front end is after an event, behind these stretches and with these words of a lock before it
pub record FrontGoesOn (front : FrontEnd) (event : FrontEvent) (before : List (List ℕ)) (words : Option (List ℕ)) (bits : List Bool) : Type 0 where
  pub before_after : List (List ℕ)
  pub words_after : Option (List ℕ)
  pub at : FrontIsAt front bits before_after words_after
  pub moves : FrontMoves event before words before_after words_after

-- after these bits some front end lies behind these stretches, and its lock has these words
abbrev pub StaysAt : List Bool → List (List ℕ) → Option (List ℕ) → Type 0
StaysAt bits before words = (front : FrontEnd) × FrontIsAt front bits before words
