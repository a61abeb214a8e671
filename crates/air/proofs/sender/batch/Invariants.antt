use Rattle.std.proofs.Common.{◌≡◌, ◌+◌, ◌≤◌, List, ◌∷◌, ◌++◌, take, drop}
use Rattle.codeword.specs.declared.words.TheConstants.{SYNC}
use Rattle.page_text.specs.Page.{Page}
use Rattle.scheduler.specs.Sendings.{KeepsPool}
use Rattle.scheduler.specs.Pooled.{ScheduleStands, lender, pool_of, slots_left}
use Rattle.scheduler.specs.declared.slots.Slot.{Slot}
use Rattle.air.specs.Sends.{words_of_slots}
use Rattle.air.proofs.sender.batch.Given as goal

abbrev pub invariant-loop : goal.invariant-loop
invariant-loop g l = record {
  lends : lender l.schedule ≡ lender l.initial.schedule;
  words : l.words.items ≡ SYNC ∷ words_of_slots (take l.counter (slots_left l.initial.schedule));
  left : slots_left l.schedule ≡ drop l.counter (slots_left l.initial.schedule);
  stands : (accepted : List Page) (given : List Slot) → ScheduleStands accepted given l.initial.schedule
      → ScheduleStands accepted (given ++ take l.counter (slots_left l.initial.schedule)) l.schedule;
  keeps : KeepsPool (pool_of l.initial.schedule) (pool_of l.schedule);
  later : l.initial.steps ≤ l.steps;
  heads : l.steps ≤ l.initial.steps + l.counter;
}
