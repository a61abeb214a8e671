-- Two runs of `send` over the same objects, where no call fails, come to the same.
use Rattle.std.specs.Prelude.{◌≡◌, ◌≢◌, ℕ, ◌*◌, ◌<◌, ◌≤◌, List, length, IsTrue}
use Rattle.tap_entry.specs.PagesFile.{IsFile, FileContent}
use Rattle.station.specs.declared.outcomes.Outcome.{Outcome}
use Rattle.station.specs.declared.outcomes.Outcome.TheVariants.{Ended}
use Rattle.endings.specs.declared.statuses.Status.TheVariants.{Memory}
use Rattle.calling.specs.Conversations.{HasRoom}
use Rattle.station.specs.OneOutcome.{LeftAlike}
use Rattle.station.specs.Rows.{Objects, RunsSend, around}
use Rattle.serving.specs.Serving.{Around}

-- The shelf is steady and has the pages file. The wire is steady and has a connection left, which has room for what the client says for
-- each front of what is due. The output is steady, and has room for 20 bytes a page.
pub record FitSend (pages : List ℕ) (old : Around) : Type 0 where
  pub tells : IsTrue old.shelf.tells
  pub steady : IsTrue old.shelf.steady
  pub there : IsTrue (old.shelf.there pages)
  pub wire_tells : IsTrue old.wire.tells
  pub wire_steady : IsTrue old.wire.steady
  pub left : old.wire.opened < old.wire.count
  pub wire_room : (told : FileContent) → IsFile (old.shelf.file pages) told → HasRoom told (old.wire.connection old.wire.opened)
  pub out_tells : IsTrue old.out.tells
  pub out_steady : IsTrue old.out.steady
  pub out_room : (told : FileContent) → IsFile (old.shelf.file pages) told → 20 * length told.pages ≤ old.out.room

-- Over fit objects two runs of `send` that had memory answer the same, and leave the same.
abbrev pub OneSend : Type 0
OneSend = (address pages : List ℕ) (old new other : Objects) (outcome another : Outcome) → FitSend pages (around old)
    → RunsSend address pages old new outcome → RunsSend address pages old other another → outcome ≢ Ended Memory → another ≢ Ended Memory
    → (another ≡ outcome) × LeftAlike new other
