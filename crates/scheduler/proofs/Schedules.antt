-- Each list of at least one page has one schedule, and how many slots it has.
use Rattle.std.proofs.Common.{◌≡◌, ◌≢◌, ℕ, true, List, [], length, refl, ap, arith}
use Rattle.page_text.specs.Page.{Page}
use Rattle.scheduler.specs.Slots.{IsSchedule}
use Rattle.scheduler.specs.Plan.{room, pieces_of, slots_of}
use Rattle.scheduler.specs.Laws.{OneSchedule, FewSlots}
use Rattle.scheduler.proofs.Unique.{at_most_one}
use Rattle.scheduler.proofs.Lays.{Lays, lays_layout}
use Rattle.scheduler.proofs.Room.{some_pieces-lays, place-lays, room_short}

-- the pieces of the plan, each chosen as its place demands
pieces_of-lays : (accepted : List Page) → Lays 0 accepted true (pieces_of accepted)
unfolding pieces_of
pieces_of-lays accepted = some_pieces-lays (room 0 accepted true) 0 accepted true (omega arith)

-- the plan's words are a schedule
pub slots_of-schedule : (accepted : List Page) → accepted ≢ [] → IsSchedule accepted (slots_of accepted)
slots_of-schedule accepted some = record {
  pieces = pieces_of accepted;
  layout = lays_layout accepted (pieces_of accepted) some (pieces_of-lays accepted);
  slots_are = refl;
}

-- there is no other
pub schedule-is_slots_of : (accepted : List Page) (slots : List ℕ) → accepted ≢ [] → IsSchedule accepted slots
    → slots ≡ slots_of accepted
schedule-is_slots_of accepted slots some is = at_most_one accepted slots (slots_of accepted) is (slots_of-schedule accepted some)

-- so there is exactly one
pub one_schedule : OneSchedule
one_schedule accepted some =
    (slots_of accepted, slots_of-schedule accepted some, λ others is. schedule-is_slots_of accepted others some is)

-- it is no longer than the room at its start
pub few_slots : FewSlots
few_slots accepted slots some is =
    omega (
      arith,
      ap length (schedule-is_slots_of accepted slots some is),
      place-lays 0 accepted true (pieces_of accepted) (pieces_of-lays accepted),
      room_short 0 accepted true,
    )
