-- What is kept of a transmission that is sent twice, where each word is near in a copy or can't be read there.
use Rattle.std.specs.Prelude.{◌≡◌, ℕ, suc, ◌+◌, ◌*◌, ◌/◌, ◌%◌, ◌≤◌, ◌==◌, Bool, true, false, ◌||◌, cond, nat_le, List, [], ◌∷◌, ◌++◌, length, map, take, drop, All, ◌⊎◌}
use Rattle.bits.specs.Bits.{words_bits, number, dist}
use Rattle.bch31.specs.Fix.{HasNoFix}
use Rattle.codeword.specs.declared.batches.TheConstants.{BATCH_WORDS, SLOTS}
use Rattle.page_text.specs.Page.{Page, IsAcceptable}
use Rattle.scheduler.specs.Slots.{PlanPiece, Idle, Run, run, frame, in_frame, IsSchedule}
use Rattle.air.specs.Air.{transmission}
use Rattle.air.specs.Near.{preamble_length, word_behind}
use Rattle.receiver.specs.Heard.{with_text}
use Rattle.receiver.specs.Shown.{pages_in, pages_of_frame}
use Rattle.near.specs.Clean.{run_is_clean}
use Rattle.near.specs.NearAir.{AreUsable}
use Rattle.repeats.specs.Twin.{held_slots, heard_twice}

-- A copy has the length of the transmission, equals it in every bit of the preamble, and differs from it in at most two bits of each
-- sync word, which are every 17th of the words behind the preamble. Each other word too differs in at most two bits, or else no
-- codeword is within two bits of it.
pub record IsNearOrNone (air copy : List Bool) : Type 0 where
  pub whole : length copy ≡ length air
  pub preamble : take preamble_length copy ≡ take preamble_length air
  pub syncs : (k : ℕ) → k % BATCH_WORDS ≡ 0 → dist (word_behind k copy) (word_behind k air) ≤ 2
  pub slots : (k : ℕ) → (dist (word_behind k copy) (word_behind k air) ≤ 2) ⊎ HasNoFix (number (word_behind k copy))

-- what is heard is two copies of the transmission of the accepted pages
pub record Copies (accepted : List Page) (heard : List Bool) : Type 0 where
  pub slots : List ℕ
  pub schedule : IsSchedule accepted slots
  pub first : List Bool
  pub second : List Bool
  pub near_first : IsNearOrNone (words_bits (transmission slots)) first
  pub near_second : IsNearOrNone (words_bits (transmission slots)) second
  pub whole : heard ≡ first ++ second

-- What is heard is the transmission of the accepted pages twice, each word near or with no codeword. No page gives no bits.
abbrev pub NearOrNone : List Page → List Bool → Type 0
NearOrNone [] heard = heard ≡ []
NearOrNone (page ∷ pages) heard = Copies (page ∷ pages) heard

-- ---- the pages that are kept

-- a word behind the preamble differs in a copy in at most two bits
abbrev pub near_word : List Bool → List Bool → ℕ → Bool
near_word air copy k = nat_le (dist (word_behind k copy) (word_behind k air)) 2

-- the number, behind the preamble, of the word in a slot
abbrev pub word_of_slot : ℕ → ℕ
word_of_slot place = suc (place / SLOTS * BATCH_WORDS + place % SLOTS)

-- the word in a slot is clean in at least one copy
abbrev pub clean : List Bool → List Bool → List Bool → ℕ → Bool
clean air first second place = near_word air first (word_of_slot place) || near_word air second (word_of_slot place)

-- for each run of a frame, in order: whether it is clean, with the word in the slot after it
unfoldable pub clean_runs : (ℕ → Bool) → ℕ → ℕ → List PlanPiece → List Bool
clean_runs is_clean f place [] = []
clean_runs is_clean f place (Idle ∷ rest) = clean_runs is_clean f (suc place) rest
clean_runs is_clean f place (Run page ∷ rest) =
    cond (in_frame f page)
    (run_is_clean is_clean place page ∷ clean_runs is_clean f (place + length (run page)) rest)
    (clean_runs is_clean f (place + length (run page)) rest)

-- the first mark, or false
abbrev pub first_mark : List Bool → Bool
first_mark [] = false
first_mark (mark ∷ marks) = mark

-- the marks of each frame, without the first of this one
abbrev pub marks_behind : ℕ → (ℕ → List Bool) → ℕ → List Bool
marks_behind f marks g = cond (f == g) (drop 1 (marks g)) (marks g)

-- the marked pages, in order: the n-th page of a frame has the frame's n-th mark
unfoldable pub marked : (ℕ → List Bool) → List Page → List Page
marked marks [] = []
marked marks (page ∷ pages) =
    cond (first_mark (marks (frame page)))
    (page ∷ marked (marks_behind (frame page) marks) pages)
    (marked (marks_behind (frame page) marks) pages)

-- The accepted pages, in order, whose run is clean with the word in the slot after it. The run of the n-th accepted page of a frame
-- is the n-th run of this frame, since a schedule is fair.
abbrev pub kept_pages : (accepted : List Page) (heard : List Bool) → NearOrNone accepted heard → List Page
kept_pages [] heard near = []
kept_pages (page ∷ pages) heard near =
    marked
    (λ f. clean_runs (clean (words_bits (transmission near.slots)) near.first near.second) f 0 near.schedule.pieces)
    (page ∷ pages)

-- ---- the law

-- a transmission of the accepted pages has no more slots than are held of a first stretch
abbrev pub SlotsAreHeld : List Page → Type 0
SlotsAreHeld accepted = (slots : List ℕ) → IsSchedule accepted slots → length slots ≤ held_slots

-- Of a transmission that is sent twice, each word near or with no codeword, the pages heard of each set of capcodes that are listened
-- to are, in each frame, exactly the kept pages of this set, in order, each with its text.
abbrev pub KeptFrames : Type 0
KeptFrames =
    (listens : ℕ → Bool) (accepted : List Page) (heard : List Bool)
    → AreUsable listens → All IsAcceptable accepted → SlotsAreHeld accepted → (near : NearOrNone accepted heard)
    → (set : ℕ → Bool) (f : ℕ) → ((capcode : ℕ) → set capcode ≡ true → listens capcode ≡ true)
    → pages_of_frame f (pages_in set (map with_text (heard_twice listens heard))) ≡ pages_of_frame f (pages_in set (kept_pages accepted heard near))

-- what is kept hangs on the accepted pages and on what is heard alone
abbrev pub OneKept : Type 0
OneKept = (accepted : List Page) (heard : List Bool) (near other : NearOrNone accepted heard) → kept_pages accepted heard near ≡ kept_pages accepted heard other
