-- A client and a terminal, each hearing what the other says.
use Rattle.std.specs.Prelude.{◌≡◌, ℕ, List, [], ◌∷◌, ◌++◌, Option, Some}
use Rattle.std.specs.List.{AllByRecursion}
use Rattle.tap_block.specs.Chars.{characters}
use Rattle.tap_terminal.specs.Session.{Session, IsSession}
use Rattle.tap_terminal.specs.Replies.{replies}
use Rattle.tap_entry.specs.PagesFile.{IsPassword}
use Rattle.page_text.specs.Page.{Page as Accepted}
use Rattle.page_pool.specs.Gains.{pages_to}
use Rattle.subscribers.specs.Parts.{Target}
use Rattle.subscribers.specs.Directory.{Directory}
use Rattle.tap_entry.specs.Marks.{AreHeard}
use Rattle.tap_entry.specs.declared.hearing.Mark.{Mark}
use Rattle.tap_entry.specs.declared.outcomes.Outcome.{Outcome}
use Rattle.tap_entry.specs.declared.outcomes.Outcome.TheVariants.{Sent}
use Rattle.tap_entry.specs.Client.{PageToSend, IsPage, Client}

-- the pages that are marked sent
abbrev pub sent_of : List PageToSend → List Outcome → List PageToSend
sent_of [] outcomes = []
sent_of (page ∷ pages) [] = []
sent_of (page ∷ pages) (Sent ∷ outcomes) = page ∷ sent_of pages outcomes
sent_of (page ∷ pages) (other ∷ outcomes) = sent_of pages outcomes

-- The directory has the page's id, and these are one page for each capcode of it, in their order, each with its function and the text.
pub record AreFor (directory : Directory) (page : PageToSend) (accepted : List Accepted) : Type 0 where
  pub target : Target
  pub known : directory page.id ≡ Some target
  pub pages_are : accepted ≡ pages_to target.capcodes target.function page.text

-- the accepted pages are those for each of these in order
abbrev pub AreForAll : Directory → List PageToSend → List Accepted → Type 0
AreForAll directory [] accepted = accepted ≡ []
AreForAll directory (page ∷ pages) accepted = (own others : List Accepted) × (accepted ≡ own ++ others) × AreFor directory page own × AreForAll directory pages others

-- A client hears h, has these marks of it, and says t for them. The terminal has a session of t, and h is its replies. Then the
-- accepted pages are those of the pages that the client marks Sent.
abbrev pub BothEnds : Type 0
BothEnds = (mine theirs : Option (List ℕ)) (directory : Directory) (spare : ℕ) (pages : List PageToSend) (h t : List ℕ) (marks : List Mark) (outcomes : List Outcome) (session : Session)
    → AllByRecursion IsPage pages → IsPassword mine
    → AreHeard h marks → Client mine pages marks outcomes t → IsSession theirs directory spare (characters t) session → h ≡ replies session.answers
    → AreForAll directory (sent_of pages outcomes) session.pages
