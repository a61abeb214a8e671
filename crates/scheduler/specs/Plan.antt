-- The pieces of a transmission, chosen one at a time from its start.
use Rattle.std.specs.Prelude.{ℕ, zero, suc, ◌+◌, ◌-◌, ◌*◌, ◌%◌, ◌==◌, Bool, true, false, ◌&&◌, if◌then◌else◌, List, [], ◌∷◌, length}
use Rattle.std.specs.List.{filter, sum_by}
use Rattle.codeword.specs.declared.batches.TheConstants.{FRAME_SLOTS, SLOTS}
use Rattle.page_text.specs.Page.{Page}
use Rattle.codeword.specs.Capcodes.{frame_at}
use Rattle.scheduler.specs.Slots.{PlanPiece, Idle, Run, run, words, frame, in_frame}

-- no page is left
abbrev pub none_waits : List Page → Bool
none_waits [] = true
none_waits (page ∷ waiting) = false

-- no page waits, the place before was idle, and a batch has ended
abbrev pub is_done : ℕ → List Page → Bool → Bool
is_done start waiting idle = none_waits waiting && (idle && start % SLOTS == 0)

-- the pages without the first one of a frame
abbrev pub without_first : ℕ → List Page → List Page
without_first f [] = []
without_first f (page ∷ waiting) = if in_frame f page then waiting else page ∷ without_first f waiting

-- At most n pieces from a place on. Where pages of the place's frame wait, the first of them starts; else the place is idle.
unfoldable pub some_pieces : ℕ → ℕ → List Page → Bool → List PlanPiece
some_pieces zero start waiting idle = []
some_pieces (suc n) start waiting idle =
    elim (is_done start waiting idle) [
      | true ↦ []
      | false ↦ elim (filter (in_frame (frame_at start)) waiting) [
        | [] ↦ Idle ∷ some_pieces n (start + 1) waiting true
        | page ∷ _ ↦ Run page ∷ some_pieces n (start + length (run page)) (without_first (frame_at start) waiting) false
      ]
    ]

-- how many places further a frame comes next: none in the frame itself
abbrev pub way : ℕ → ℕ → ℕ
way start f = if frame_at start == f then 0 else (FRAME_SLOTS * f + SLOTS - start % SLOTS) % SLOTS

-- how many slots suffice from a place on
abbrev pub room : ℕ → List Page → Bool → ℕ
room start [] idle = if idle && start % SLOTS == 0 then 0 else SLOTS - start % SLOTS
room start (page ∷ waiting) idle = way start (frame page) + sum_by (λ q. length (run q)) (page ∷ waiting) + 14 * length waiting + SLOTS

-- the pieces of a transmission of the accepted pages, and their words
unfoldable pub pieces_of : List Page → List PlanPiece
pieces_of accepted = some_pieces (room 0 accepted true) 0 accepted true

abbrev pub slots_of : List Page → List ℕ
slots_of accepted = words (pieces_of accepted)

-- the pieces from a place on, while these pages wait
unfoldable pub pieces_from : ℕ → List Page → Bool → List PlanPiece
pieces_from start waiting idle = some_pieces (room start waiting idle) start waiting idle

-- the pages that wait still when the runs of some were given, each of them the first of its frame
abbrev pub still : List Page → List Page → List Page
still [] waiting = waiting
still (page ∷ given) waiting = still given (without_first (frame page) waiting)
