-- What `transmit` does.
use Rattle.std.specs.Prelude.{◌≡◌, ℕ, zero, suc, ◌+◌, ◌*◌, ◌≤◌, Bool, List, [], ◌∷◌, ◌++◌, length, map, take, drop, Result, IsTrue}
use Rattle.std.specs.List.{sum_by}
use Rattle.bits.specs.Bits.{words_bits}
use Rattle.codeword.specs.declared.batches.TheConstants.{SLOTS}
use Rattle.codeword.specs.declared.words.TheConstants.{SYNC}
use Rattle.page_text.specs.Page.{Page}
use Rattle.scheduler.specs.Slots.{run, IsSchedule}
use Rattle.scheduler.specs.Said.{word_in, AreSlots}
use Rattle.scheduler.specs.Sendings.{HeldPages}
use Rattle.scheduler.specs.declared.slots.Slot.{Slot}
use Rattle.wires.specs.Written.{Written, Puts, AppendsFront}
use Rattle.air.specs.Air.{preamble, batches, IsAir}

-- the words of slots
abbrev pub words_of_slots : List Slot → List ℕ
words_of_slots slots = map word_in slots

-- The transmission of the accepted pages was written, or after Failed a front of it. It fails in no steady sink with room for it.
pub record SendsTransmission {T E : Type 0} (accepted : List Page) (old new : Written Bool) (result : Result T E) : Type 0 where
  pub bits : List Bool
  pub air : IsAir accepted bits
  pub puts : Puts old new bits result

-- the transmission of the accepted pages has so many batches; that of no page has none
abbrev pub HasBatches : List Page → ℕ → Type 0
HasBatches [] n = n ≡ 0
HasBatches (page ∷ accepted) n = (slots : List ℕ) × IsSchedule (page ∷ accepted) slots × (length slots ≡ SLOTS * n)

-- how many slots a transmission has at most: the lengths of the runs, 14 for each page and one batch
abbrev pub most_slots : List Page → ℕ
most_slots accepted = sum_by (λ page. length (run page)) accepted + 14 * length accepted + SLOTS

-- A transmission is handed to the sink in pieces: the preamble, and then batch by batch. This is the piece after so many batches: the
-- preamble where none was handed, else the last of them; and these are the words of the pieces before it.
abbrev pub last_piece : ℕ → List ℕ → List ℕ
last_piece zero slots = preamble
last_piece (suc n) slots = SYNC ∷ take SLOTS (drop (SLOTS * n) slots)

abbrev pub pieces_before : ℕ → List ℕ → List ℕ
pieces_before zero slots = []
pieces_before (suc n) slots = preamble ++ batches n slots

-- The sink refused a piece: the preamble, or the last of so many batches. The pieces before it were written whole, and of this one a
-- front. These pages are held: the accepted ones, in order, without those whose runs are whole in the slots that were handed over,
-- those of the refused batch among them.
pub record SendingStops (accepted : List Page) (old new : Written Bool) (held : List Page) : Type 0 where
  pub slots : List Slot
  pub are : AreSlots accepted slots
  pub handed : ℕ
  pub within : SLOTS * handed ≤ length slots
  pub written : IsTrue old.tells
      → AppendsFront (old.held ++ words_bits (pieces_before handed (words_of_slots slots))) new.held (words_bits (last_piece handed (words_of_slots slots)))
  pub held_are : HeldPages accepted (take (SLOTS * handed) slots) held
