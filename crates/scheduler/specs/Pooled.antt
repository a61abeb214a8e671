-- A schedule over a pool, as its callers see it.
use Rattle.std.specs.Prelude.{ℕ, List}
use Rattle.page_text.specs.Page.{Page}
use Rattle.page_pool.specs.Pool.{Pool}
use Rattle.scheduler.specs.Sendings.{SendingStandsAt, slots_to_come}
use Rattle.scheduler.specs.declared.slots.Slot.{Slot}
use Rattle.scheduler.specs.declared.pooled.Schedule.{Schedule}

-- the slots that are still to come
abbrev pub slots_left : Schedule → List Slot
slots_left s = slots_to_come s.pool.now s.sending.place s.sending.before

-- the reference to the pool
abbrev pub lender : Schedule → ℕ
lender s = s.pool.ghost_name

-- the pool
abbrev pub pool_of : Schedule → Pool
pool_of s = s.pool.now

-- these slots were given of a transmission of the accepted pages, and the pool holds those whose runs aren't whole
abbrev pub ScheduleStands : List Page → List Slot → Schedule → Type 0
ScheduleStands accepted given s = SendingStandsAt accepted given s.pool.now s.sending.place s.sending.before
