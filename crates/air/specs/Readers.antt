-- The words and the bits of a transmission over a pool, as their readers' callers see them.
use Rattle.std.specs.Prelude.{ℕ, Bool, List}
use Rattle.page_text.specs.Page.{Page}
use Rattle.page_pool.specs.Pool.{Pool}
use Rattle.scheduler.specs.Sendings.{SendingStandsAt}
use Rattle.scheduler.specs.declared.slots.Slot.{Slot}
use Rattle.air.specs.Left.{words_to_come, slot_comes}
use Rattle.air.specs.declared.reader.Words.{Words}

-- the words that are still to come
abbrev pub words_left : Words → List ℕ
words_left s = words_to_come s.order s.pool.now

-- the next word is that of a slot
abbrev pub slot_next : Words → Bool
slot_next s = slot_comes s.order

-- the reference to the pool
abbrev pub words_lender : Words → ℕ
words_lender s = s.pool.ghost_name

-- the pool
abbrev pub words_pool : Words → Pool
words_pool s = s.pool.now

-- these slots were given of a transmission of the accepted pages, and the pool holds those whose runs aren't whole
abbrev pub WordsStand : List Page → List Slot → Words → Type 0
WordsStand accepted given s = SendingStandsAt accepted given s.pool.now s.order.sending.place s.order.sending.before
