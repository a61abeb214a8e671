-- What a terminal holds, and the characters that it stands for.
use Rattle.std.specs.Prelude.{◌≡◌, ℕ, ◌≤◌, Bool, true, false, List, [], ◌∷◌, ◌++◌, length, if◌then◌else◌, Option, Some, None}
use Rattle.page_text.specs.Page.{Page}
use Rattle.page_pool.specs.Gains.{Gains}
use Rattle.page_pool.specs.Pool.{Pool}
use Rattle.tap_block.specs.Brief.{ScannerState, ScannerStandsFor}
use Rattle.tap_block.specs.Reading.{Entry, BeforeLogon}
use Rattle.tap_terminal.specs.declared.answers.Answer.{Answer}
use Rattle.tap_terminal.specs.declared.answers.Answer.TheVariants.{Nothing}
use Rattle.tap_terminal.specs.declared.answers.Judgement.{Judgement}
use Rattle.tap_terminal.specs.declared.report.Report.{Report}
use Rattle.tap_terminal.specs.declared.terminal.Stage.{Stage}
use Rattle.tap_terminal.specs.declared.terminal.Stage.TheVariants.{Open, Ended, Forced}
use Rattle.subscribers.specs.Directory.{Directory}
use Rattle.tap_terminal.specs.Verdict.{Verdict}
use Rattle.tap_terminal.specs.Session.{Course, ItemDecided, Session, start, decide, tell, has_end, is_end, is_wrong, answers_of, pages_of, report_of, has_wrong_end, IsSession}

-- what a terminal holds: its password, its scanner, the content so far, how many characters and wrong lines came, the report, and
-- whether the session goes on
pub record TerminalState : Type 0 where
  pub password : Option (List ℕ)
  pub scanner : ScannerState
  pub joined : List ℕ
  pub heard : ℕ
  pub wrong : ℕ
  pub report : Report
  pub stage : Stage

-- what a session has come to after items
abbrev pub course_at : Directory → Course → List Entry → Course
course_at directory s [] = s
course_at directory s (e ∷ es) = course_at directory (decide directory s e).course es

-- the content so far and the wrong lines of a terminal, with so many spare cells
abbrev pub course_of : TerminalState → ℕ → Course
course_of t spare = record { joined = t.joined; spare = spare; wrong = t.wrong }

-- a session whose length doesn't end it
abbrev pub sum_up : List ItemDecided → Session
sum_up told = record { answers = answers_of told; pages = pages_of told; report = report_of told; forced = has_wrong_end told }

-- While no End came, the terminal holds what the items of x leave, and how many characters x has.
pub record IsOpenAt (password : Option (List ℕ)) (directory : Directory) (spare : ℕ) (t : TerminalState) (x : List ℕ) (session : Session) (left : ℕ) : Type 0 where
  pub items : List Entry
  pub scanner : ScannerStandsFor BeforeLogon t.scanner x items
  pub password_is : t.scanner.password ≡ password
  pub heard : t.heard ≡ length x
  pub few : length x ≤ 999999
  pub no_end : has_end (tell directory (start spare) items) ≡ false
  pub course : course_at directory (start spare) items ≡ course_of t left
  pub session_is : session ≡ sum_up (tell directory (start spare) items)

-- After an End nothing that comes changes the session.
abbrev pub IsOver : Option (List ℕ) → Directory → ℕ → List ℕ → Session → Type 0
IsOver password directory spare x session = (y : List ℕ) → IsSession password directory spare (x ++ y) session

-- one of both, by the stage
abbrev pub StandsAt : Stage → Option (List ℕ) → Directory → ℕ → TerminalState → List ℕ → Session → ℕ → Type 0
StandsAt Open password directory spare t x session left = IsOpenAt password directory spare t x session left
StandsAt Ended password directory spare t x session left = IsOver password directory spare x session
StandsAt Forced password directory spare t x session left = IsOver password directory spare x session

-- the stage of a session that a wrong line or the length ended
abbrev pub is_forced : Stage → Bool
is_forced Open = false
is_forced Ended = false
is_forced Forced = true

-- The terminal stands for the characters x, of which this is the session, where at first so many cells were spare and now so many
-- are left.
pub record Stands (password : Option (List ℕ)) (directory : Directory) (spare : ℕ) (t : TerminalState) (x : List ℕ) (session : Session) (left : ℕ) : Type 0 where
  pub at_stage : StandsAt t.stage password directory spare t x session left
  pub report_is : t.report ≡ session.report
  pub forced_is : is_forced t.stage ≡ session.forced

-- the session of no character
abbrev pub unheard : Session
unheard = sum_up []

-- what is said: nothing for Nothing
abbrev pub said : Answer → List Answer
said Nothing = []
said other = other ∷ []

-- One character more: the terminal stands for the longer list, whose session has this answer more, if one was given, and the pages
-- that the pool gained.
pub record HearsOn (password : Option (List ℕ)) (directory : Directory) (spare : ℕ) (new : TerminalState) (x : List ℕ) (c : ℕ) (session : Session) (answer : Answer) (before after : Pool) : Type 0 where
  pub longer : Session
  pub gained : List Page
  pub stands : Stands password directory spare new (x ++ c ∷ []) longer after.spare
  pub answers_are : longer.answers ≡ session.answers ++ said answer
  pub pages_are : longer.pages ≡ session.pages ++ gained
  pub pool : Gains before after gained

-- the session goes on
abbrev pub is_open : Stage → Bool
is_open Open = true
is_open Ended = false
is_open Forced = false

-- the stage after an item with this answer
abbrev pub stage_after : Entry → Answer → Stage
stage_after e answer = if is_end answer then (if is_wrong e then Forced else Ended) else Open

-- what an answer leaves as it was
pub record KeepsSession (old new : TerminalState) : Type 0 where
  pub password : new.password ≡ old.password
  pub scanner : new.scanner ≡ old.scanner
  pub heard : new.heard ≡ old.heard
  pub report : new.report ≡ old.report

-- an item was judged so; it isn't counted yet
pub record IsItemJudged (directory : Directory) (old new : TerminalState) (e : Entry) (judged : Judgement) (before after : Pool) : Type 0 where
  pub answer_is : judged.answer ≡ (decide directory (course_of old before.spare) e).told.answer
  pub pages_are : judged.pages ≡ length (decide directory (course_of old before.spare) e).told.pages
  pub course : (decide directory (course_of old before.spare) e).course ≡ course_of new after.spare
  pub stage : new.stage ≡ stage_after e judged.answer
  pub pool : Gains before after (decide directory (course_of old before.spare) e).told.pages

-- a verdict was carried out
pub record IsVerdictDone (v : Verdict) (judged : Judgement) (before after : Pool) : Type 0 where
  pub answer_is : judged.answer ≡ v.answer
  pub pages_are : judged.pages ≡ length v.pages
  pub pool : Gains before after v.pages
