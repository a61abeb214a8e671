-- The words of a transmission that are still to come.
use Rattle.std.specs.Prelude.{◌≡◌, ℕ, zero, suc, ◌+◌, ◌*◌, ◌≤◌, Bool, true, false, List, [], ◌∷◌, ◌++◌, length, replicate, Option, Some, None, MatchOption}
use Rattle.codeword.specs.declared.batches.TheConstants.{BATCH_WORDS, SLOTS}
use Rattle.codeword.specs.declared.words.TheConstants.{SYNC}
use Rattle.page_text.specs.Page.{Page}
use Rattle.page_pool.specs.Pool.{Pool, cells, pages}
use Rattle.scheduler.specs.Slots.{IsSchedule}
use Rattle.scheduler.specs.Said.{word_in}
use Rattle.scheduler.specs.Sendings.{slots_to_come, IsSendingOf, KeepsPool, SendingStandsAt}
use Rattle.scheduler.specs.declared.slots.Slot.{Slot}
use Rattle.std.specs.Borrow.{GName}
use Rattle.bits.specs.Bits.{bits_of, words_bits}
use Rattle.wires.specs.Held.{Lent}
use Rattle.wires.specs.Left.{Left}
use Rattle.codeword.specs.Words.{filler}
use Rattle.air.specs.Air.{transmission}
use Rattle.air.specs.Sends.{words_of_slots, most_slots}
use Rattle.air.specs.declared.order.Order.{Order}

-- the words of the transmission of accepted pages. No page gives no word.
abbrev pub AreWords : List Page → List ℕ → Type 0
AreWords [] words = words ≡ []
AreWords (page ∷ accepted) words = (slots : List ℕ) × IsSchedule (page ∷ accepted) slots × (words ≡ transmission slots)

-- the words are 18 and those of the batches, whose slots are so many at most
pub record AreFew (accepted : List Page) (words : List ℕ) : Type 0 where
  pub batches : ℕ
  pub words_are : length words ≡ 18 + BATCH_WORDS * batches
  pub few : SLOTS * batches ≤ most_slots accepted

-- the words of slots with the sync words between them: so many slots come before the next sync word
abbrev pub with_sync : ℕ → List ℕ → List ℕ
with_sync k [] = []
with_sync zero (word ∷ slots) = SYNC ∷ word ∷ with_sync 15 slots
with_sync (suc k) (word ∷ slots) = word ∷ with_sync k slots

-- the words that are still to come: of the preamble, and then of the slots
abbrev pub words_to_come : Order → Pool → List ℕ
words_to_come s w = replicate s.preamble filler ++ with_sync s.room (words_of_slots (slots_to_come w s.sending.place s.sending.before))

-- whether a slot comes next, by how many words of the preamble are still to come and how many slots before the next sync word
abbrev pub comes : ℕ → ℕ → Bool
comes zero zero = false
comes zero (suc room) = true
comes (suc preamble) room = false

-- the next word is that of a slot, and none of the preamble and no sync word
abbrev pub slot_comes : Order → Bool
slot_comes s = comes s.preamble s.room

-- how many steps the next word may take: one where it is that of a slot
abbrev pub steps_of : Bool → ℕ
steps_of true = 1
steps_of false = 0

-- the slot of which a word was given, if it was that of a slot
abbrev pub HasSlot : Bool → Option ℕ → List Slot → Type 0
HasSlot comes None slots = slots ≡ []
HasSlot true (Some word) slots = (slot : Slot) × (slots ≡ slot ∷ []) × (word ≡ word_in slot)
HasSlot false (Some word) slots = slots ≡ []

-- the slots that were given grow by these, and the pool holds the pages whose runs aren't whole
abbrev pub Stays : List Slot → Order → Pool → Order → Pool → Type 0
Stays slots s w s' w' = (accepted : List Page) (given : List Slot) → SendingStandsAt accepted given w s.sending.place s.sending.before
    → SendingStandsAt accepted (given ++ slots) w' s'.sending.place s'.sending.before

-- a word was given, or none where all were
pub record GivesWord (result : Option ℕ) (s : Order) (w : Pool) (s' : Order) (w' : Pool) : Type 0 where
  pub follows : IsSendingOf s'.sending w'
  pub next : MatchOption result (words_to_come s w ≡ []) (λ word. words_to_come s w ≡ word ∷ words_to_come s' w')
  pub ended : MatchOption result ((words_to_come s' w' ≡ []) × (pages w' ≡ [])) (λ word. Unit {0})
  pub slots : List Slot
  pub has_slot : HasSlot (slot_comes s) result slots
  pub stands : Stays slots s w s' w'
  pub keeps : KeepsPool w w'

-- the bits that are still to come: those of the word that was begun, and then those of the words
abbrev pub bits_to_come : ℕ → ℕ → Order → Pool → List Bool
bits_to_come pending word s w = bits_of pending word ++ words_bits (words_to_come s w)

-- The bits as a source, over a pool and a counter that were lent under these names. The pool is lent with each of its cells, so no call
-- changes how many it has.
abbrev pub air_bits : ℕ → ℕ → Order → Pool → GName → GName → Left Bool
air_bits pending word s w pool steps = record {
  tells = true;
  left = bits_to_come pending word s w;
  there = true;
  steady = true;
  faults = 0;
  lent = Lent pool ∷ Lent steps ∷ replicate (cells w) (Lent pool);
}
