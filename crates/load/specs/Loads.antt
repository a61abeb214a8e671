-- What a run of the load mode comes to. docs/profile.md, "load mode".
use Rattle.std.specs.Prelude.{◌≡◌, ℕ, ◌*◌, ◌==◌, Bool, List, length, sum, None}
use Rattle.air.specs.Air.{IsAir}
use Rattle.air.specs.Sends.{HasBatches}
use Rattle.codeword.specs.declared.batches.TheConstants.{BATCH_WORDS}
use Rattle.endings.specs.Wrote.{Wrote, WroteFront}
use Rattle.endings.specs.declared.statuses.Status.{Status}
use Rattle.endings.specs.declared.statuses.Status.TheVariants.{Done, OutFault, Memory}
use Rattle.listening.specs.PageLines.{page_lines, pages_heard}
use Rattle.page_text.specs.Page.{Page}
use Rattle.receiver.specs.Shown.{pages_in}
use Rattle.subscribers.specs.Directory.{directory_of}
use Rattle.tap_block.specs.Chars.{characters}
use Rattle.tap_terminal.specs.Session.{IsSession, Session}
use Rattle.wires.specs.Stacked.{noisy_bits}
use Rattle.wires.specs.Written.{Written}
use Rattle.load.specs.Draws.{draw}
use Rattle.load.specs.Generated.{drawn_session, page_begins}
use Rattle.load.specs.Noises.{first_noise, second_noise}
use Rattle.load.specs.Report.{load_lines}
use Rattle.load.specs.Subscribers.{load_capcodes, load_cells, load_settings}
use Rattle.load.specs.declared.report.Report.{Report}

-- what the 64 receivers hear of a transmission of so many batches through the first noise, and through the second
abbrev pub heard_first : ℕ → ℕ → List Bool → ℕ → List Page
heard_first seed count air batches =
    pages_heard load_capcodes (noisy_bits air (first_noise (draw seed) (page_begins (draw seed) count) (BATCH_WORDS * batches)))

abbrev pub heard_second : ℕ → ℕ → List Bool → ℕ → List Page
heard_second seed count air batches =
    pages_heard load_capcodes (noisy_bits air (second_noise (draw seed) (page_begins (draw seed) count) (BATCH_WORDS * batches)))

-- These are the counts of the run of a seed with so many pages: of the session that is drawn, of the transmission of the pages that it
-- accepts, and of what is heard of it through both noises. Through the first, which is near, the pages heard of each capcode are its
-- accepted pages, in order.
pub record IsLoad (seed count : ℕ) (report : Report) : Type 0 where
  pub session : Session
  pub session_is : IsSession None (directory_of load_settings) load_cells (characters (drawn_session (draw seed) count)) session
  pub air : List Bool
  pub is_air : IsAir session.pages air
  pub pages : report.pages ≡ length session.pages
  pub batches : HasBatches session.pages report.batches
  pub lines : report.lines ≡ length (heard_first seed count air report.batches)
  pub bytes : report.bytes ≡ length (page_lines (heard_first seed count air report.batches))
  pub sum_is : report.sum ≡ sum (page_lines (heard_first seed count air report.batches))
  pub kept : report.kept ≡ length (heard_second seed count air report.batches)
  pub near : (c : ℕ) → pages_in (λ capcode. capcode == c) (heard_first seed count air report.batches) ≡ pages_in (λ capcode. capcode == c) session.pages

-- a run, by status: the six lines were put, or a front of them; where there was no memory, nothing was
abbrev pub Loads : ℕ → ℕ → Written ℕ → Written ℕ → Status → Type 0
Loads seed count old new Done = (report : Report) × IsLoad seed count report × Wrote old new (load_lines report)
Loads seed count old new OutFault = (report : Report) × IsLoad seed count report × WroteFront old new (load_lines report)
Loads seed count old new Memory = new ≡ old
Loads seed count old new other = ⊥
