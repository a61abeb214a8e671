-- What is known of every schedule.
use Rattle.std.specs.Prelude.{◌≡◌, ◌≢◌, ◌≤◌, ℕ, ◌+◌, ◌*◌, List, [], length}
use Rattle.std.specs.List.{sum_by}
use Rattle.codeword.specs.declared.batches.TheConstants.{SLOTS}
use Rattle.page_text.specs.Page.{Page}
use Rattle.scheduler.specs.Slots.{IsSchedule, run}

-- each list of at least one page has exactly one list of slots that meets the four conditions
abbrev pub OneSchedule : Type 0
OneSchedule = (accepted : List Page) → accepted ≢ []
    → (slots : List ℕ) × IsSchedule accepted slots × ((others : List ℕ) → IsSchedule accepted others → others ≡ slots)

-- the number of slots is at most the lengths of the runs, 14 for each page and one batch
abbrev pub FewSlots : Type 0
FewSlots = (accepted : List Page) (slots : List ℕ) → accepted ≢ [] → IsSchedule accepted slots
    → length slots ≤ sum_by (λ page. length (run page)) accepted + 14 * length accepted + SLOTS
