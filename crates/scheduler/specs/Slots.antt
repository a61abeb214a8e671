-- The slots of a transmission: four conditions on a finished list of words.
use Rattle.std.specs.Prelude.{◌≡◌, ℕ, ◌+◌, ◌*◌, ◌/◌, ◌%◌, ◌==◌, Bool, List, [], ◌∷◌, ◌++◌, length, map}
use Rattle.std.specs.List.{filter}
use Rattle.std.specs.List.Sorted.{IsPermutation}
use Rattle.codeword.specs.declared.words.TheConstants.{IDLE}
use Rattle.codeword.specs.declared.batches.TheConstants.{SLOTS}
use Rattle.codeword.specs.Capcodes.{frame_of, frame_at}
use Rattle.codeword.specs.Words.{address_of, message_of}
use Rattle.page_text.specs.Groups.{groups}
use Rattle.page_text.specs.Page.{Page}

-- a page's run: its address word, and then the message words of its text
unfoldable pub run : Page → List ℕ
run page = address_of page.capcode page.function ∷ map message_of (groups page.function page.text)

-- the frame of a page, and the frame of a place: a batch has 16 slots in 8 frames
abbrev pub frame : Page → ℕ
frame page = frame_of page.capcode

abbrev pub in_frame : ℕ → Page → Bool
in_frame f page = frame page == f

-- What the slots are made of: the idle word, or the run of a page. No word of the run of a page with a usable capcode is the idle
-- word, so a place holds the idle word exactly where its piece is idle.
pub data PlanPiece : Type 0 where
  Idle : PlanPiece
  Run : Page → PlanPiece

-- the words of the pieces, one piece after another
abbrev pub words : List PlanPiece → List ℕ
words [] = []
words (Idle ∷ rest) = IDLE ∷ words rest
words (Run page ∷ rest) = run page ++ words rest

-- the pages in the order of their runs
abbrev pub pages_in_order : List PlanPiece → List Page
pages_in_order [] = []
pages_in_order (Idle ∷ rest) = pages_in_order rest
pages_in_order (Run page ∷ rest) = page ∷ pages_in_order rest

-- the place at which the next piece starts
abbrev pub place : List PlanPiece → ℕ
place before = length (words before)

-- the four conditions
pub record IsLayout (accepted : List Page) (pieces : List PlanPiece) : Type 0 where
  -- Whole: there is one run for each accepted page, and each run starts in its page's frame.
  pub once : IsPermutation accepted (pages_in_order pieces)
  pub whole : (before : List PlanPiece) (page : Page) (after : List PlanPiece) → pieces ≡ before ++ Run page ∷ after
      → frame_at (place before) ≡ frame page
  -- Fair: each frame's pages, in the order of their runs, are its pages in accepted order.
  pub fair : (f : ℕ) → filter (in_frame f) (pages_in_order pieces) ≡ filter (in_frame f) accepted
  -- Prompt: where a place of a frame is idle, the run of every page of the frame starts before it.
  pub prompt : (before after : List PlanPiece) → pieces ≡ before ++ Idle ∷ after
      → filter (in_frame (frame_at (place before))) (pages_in_order after) ≡ []
  -- End: there are whole batches, the last place is idle, and no smaller number of batches has all runs and is idle at its last
  -- place.
  pub batches : (b : ℕ) × (place pieces ≡ SLOTS * b)
  pub idle_last : (before : List PlanPiece) × (pieces ≡ before ++ Idle ∷ [])
  pub no_sooner : (before after : List PlanPiece) (b : ℕ) → pieces ≡ before ++ Idle ∷ after → place before + 1 ≡ SLOTS * b
      → pages_in_order after ≡ [] → after ≡ []

-- these are the slots of a transmission of the accepted pages
pub record IsSchedule (accepted : List Page) (slots : List ℕ) : Type 0 where
  pub pieces : List PlanPiece
  pub layout : IsLayout accepted pieces
  pub slots_are : slots ≡ words pieces
