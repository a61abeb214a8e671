use Rattle.std.proofs.Common.{◌≡◌, ◌+◌, ◌*◌, ◌≤◌, List, ◌++◌, Ok, length, take, drop}
use Rattle.bits.specs.Bits.{words_bits}
use Rattle.page_text.specs.Page.{Page}
use Rattle.scheduler.specs.Sendings.{KeepsPool}
use Rattle.scheduler.specs.Pooled.{ScheduleStands, lender, pool_of, slots_left}
use Rattle.scheduler.specs.declared.slots.Slot.{Slot}
use Rattle.wires.specs.declared.Failed.{Failed}
use Rattle.wires.specs.Written.{Puts}
use Rattle.air.specs.Air.{batches, preamble}
use Rattle.air.specs.Sends.{words_of_slots}
use Rattle.air.proofs.sender.send.Given as goal

abbrev pub invariant-loop-schedule : goal.invariant-loop-schedule
invariant-loop-schedule g l = record {
  lends : lender l.schedule ≡ lender l.fn.schedule;
  left : slots_left l.schedule ≡ drop (16 * l.batches) (slots_left l.fn.schedule);
  within : 16 * l.batches ≤ length (slots_left l.fn.schedule);
  puts : Puts {T = Unit {0}} {E = Failed} (g.K.BitSink.state l.fn.sink) (g.K.BitSink.state l.sink)
      (words_bits (preamble ++ batches l.batches (words_of_slots (slots_left l.fn.schedule)))) (Ok tt);
  stands : (accepted : List Page) (given : List Slot) → ScheduleStands accepted given l.fn.schedule
      → ScheduleStands accepted (given ++ take (16 * l.batches) (slots_left l.fn.schedule)) l.schedule;
  keeps : KeepsPool (pool_of l.fn.schedule) (pool_of l.schedule);
  later : l.fn.steps ≤ l.steps;
  heads : l.steps ≤ l.fn.steps + 16 * l.batches;
}

abbrev pub decreases-loop-schedule : goal.decreases-loop-schedule
decreases-loop-schedule g l = length (slots_left l.schedule)
