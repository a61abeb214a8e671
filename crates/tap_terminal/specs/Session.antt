-- A whole session: docs/profile.md, "session" and "length of a session".
use Rattle.entry_line.specs.Chars.{last_character}
use Rattle.std.specs.Prelude.{◌≡◌, ℕ, ◌+◌, ◌-◌, nat_le, ◌==◌, Bool, true, false, ◌||◌, ◌&&◌, not, if◌then◌else◌, List, [], ◌∷◌, ◌++◌, length, take, map, Option}
use Rattle.std.specs.List.{flat_map}
use Rattle.page_text.specs.Page.{Page}
use Rattle.page_pool.specs.Gains.{cells_of_all}
use Rattle.tap_block.specs.Reading.{Entry, empty_line, logon, wrong_line, a_block, a_bye, BeforeLogon, InputPiece, Reads, items_of}
use Rattle.tap_block.specs.Brief.{answer_of}
use Rattle.tap_terminal.specs.declared.answers.Answer.{Answer}
use Rattle.tap_terminal.specs.declared.answers.Answer.TheVariants.{Id, Go, Nak, End}
use Rattle.tap_terminal.specs.declared.report.Report.{Report}
use Rattle.tap_terminal.specs.Reports.{counters_of, counts}
use Rattle.subscribers.specs.Directory.{Directory}
use Rattle.tap_terminal.specs.Verdict.{Verdict, verdict}

-- what was decided at an item
pub record ItemDecided : Type 0 where
  pub item : Entry
  pub answer : Answer
  pub pages : List Page

-- between two items: the content so far, the spare cells, and how many wrong lines there were
pub record Course : Type 0 where
  pub joined : List ℕ
  pub spare : ℕ
  pub wrong : ℕ

-- what is decided at an item, and what is then
pub record Decided : Type 0 where
  pub told : ItemDecided
  pub course : Course

-- a block is answered by its verdict
abbrev pub decided : Entry → Course → Verdict → Decided
decided e s v = record {
  told = record { item = e; answer = v.answer; pages = v.pages };
  course = record s { joined = v.joined; spare = s.spare - cells_of_all v.pages };
}

-- another item has this answer
abbrev pub plainly : Entry → Answer → Course → Decided
plainly e answer s = record { told = record { item = e; answer = answer; pages = [] }; course = s }

-- an item and its answer: the first and the second wrong line are answered Nak, and the third End
abbrev pub decide : Directory → Course → Entry → Decided
decide directory s empty_line = plainly empty_line Id s
decide directory s logon = plainly logon Go s
decide directory s wrong_line = plainly wrong_line (if s.wrong == 2 then End else Nak) (record s { wrong = s.wrong + 1 })
decide directory s (a_block b e right) = decided (a_block b e right) s (verdict directory s.spare s.joined b e right)
decide directory s a_bye = plainly a_bye End s

-- the answer ends the session
abbrev pub is_end : Answer → Bool
is_end End = true
is_end other = false

-- the items in order, up to the first End
abbrev pub tell : Directory → Course → List Entry → List ItemDecided
tell directory s [] = []
tell directory s (e ∷ es) = (decide directory s e).told ∷ (if is_end (decide directory s e).told.answer then [] else tell directory (decide directory s e).course es)

-- before the first item
abbrev pub start : ℕ → Course
start spare = record { joined = []; spare = spare; wrong = 0 }

-- their answers
abbrev pub answers_of : List ItemDecided → List Answer
answers_of told = map (λ t. t.answer) told

-- the pages that were queued
abbrev pub pages_of : List ItemDecided → List Page
pages_of told = flat_map (λ t. t.pages) told

-- how often each answer came, and how many pages were queued
abbrev pub report_of : List ItemDecided → Report
report_of told = counts (flat_map (λ t. counters_of (answer_of t.item) t.answer (length t.pages)) told)

-- an End is among them
abbrev pub has_end : List ItemDecided → Bool
has_end [] = false
has_end (t ∷ told) = is_end t.answer || has_end told

-- a wrong line
abbrev pub is_wrong : Entry → Bool
is_wrong wrong_line = true
is_wrong other = false

-- the End of a wrong line is among them
abbrev pub has_wrong_end : List ItemDecided → Bool
has_wrong_end [] = false
has_wrong_end (t ∷ told) = (is_wrong t.item && is_end t.answer) || has_wrong_end told

-- no End was among them, and so many characters are one too many
abbrev pub is_too_long : List ItemDecided → ℕ → Bool
is_too_long told count = not (has_end told) && nat_le last_character count

-- one more End for the length
abbrev pub closing : List ItemDecided → ℕ → List Answer
closing told count = if is_too_long told count then End ∷ [] else []

-- the answers, the pages that were queued, the report, and whether a wrong line or the length ended it
pub record Session : Type 0 where
  pub answers : List Answer
  pub pages : List Page
  pub report : Report
  pub forced : Bool

-- the session of so many characters, of which the first 999,999 have these items
abbrev pub session_of : List ItemDecided → ℕ → Session
session_of told count = record {
  answers = answers_of told ++ closing told count;
  pages = pages_of told;
  report = report_of told;
  forced = has_wrong_end told || is_too_long told count;
}

-- The session of the characters x.
pub record IsSession (password : Option (List ℕ)) (directory : Directory) (spare : ℕ) (x : List ℕ) (session : Session) : Type 0 where
  pub pieces : List InputPiece
  pub rest : List ℕ
  pub reads : Reads password BeforeLogon pieces rest (take 999999 x)
  pub session_is : session ≡ session_of (tell directory (start spare) (items_of password pieces)) (length x)

-- the answers and the pages of the front are the first of the whole
pub record Continues (front whole : Session) : Type 0 where
  pub answers : List Answer
  pub pages : List Page
  pub answers_are : whole.answers ≡ front.answers ++ answers
  pub pages_are : whole.pages ≡ front.pages ++ pages
