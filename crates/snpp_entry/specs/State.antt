-- What an Snpp holds, and the characters that it stands for.
use Rattle.std.specs.Prelude.{◌≡◌, ℕ, ◌≤◌, min, Bool, true, false, List, [], ◌∷◌, ◌++◌, length, take}
use Rattle.page_text.specs.Page.{Page}
use Rattle.page_pool.specs.Pool.{Pool}
use Rattle.page_pool.specs.Gains.{Gains}
use Rattle.snpp_entry.specs.declared.answers.SnppAnswer.{SnppAnswer}
use Rattle.snpp_entry.specs.declared.answers.SnppAnswer.TheVariants.{Nothing, Ok, Bye, TooLong, Command, Twice, Missing, Pager, Text, Room}
use Rattle.snpp_entry.specs.declared.report.SnppReport.{SnppReport}
use Rattle.snpp_entry.specs.Lines.{cut}
use Rattle.subscribers.specs.Directory.{Directory}
use Rattle.snpp_entry.specs.Rows.{Pending, Outcome}
use Rattle.snpp_entry.specs.Reports.{snpp_report_of}
use Rattle.snpp_entry.specs.Session.{SnppCourse, session, snpp_start, snpp_tell, outcome_of_piece, course_after, has_bye}

-- what an Snpp holds: what is pending, the first characters after the last LF and how many there are, how many characters came, the
-- report, and whether the session is over
pub record SnppState : Type 0 where
  pub pending : Pending
  pub kept : List ℕ
  pub count : ℕ
  pub heard : ℕ
  pub report : SnppReport
  pub over : Bool

-- what a session has come to after pieces
abbrev pub snpp_course_at : Directory → SnppCourse → List (List ℕ) → SnppCourse
snpp_course_at directory s [] = s
snpp_course_at directory s (piece ∷ ps) = snpp_course_at directory (course_after s (outcome_of_piece directory s piece)) ps

-- of these characters, the first 1,101 are kept, and they are counted up to 1,102
pub record AreKept (rest kept : List ℕ) (count : ℕ) : Type 0 where
  pub kept_are : kept ≡ take 1101 rest
  pub count_is : count ≡ min (length rest) 1102

-- While the session isn't over, the Snpp holds what the lines of x leave, and what follows its last LF.
pub record SnppIsOpenAt (directory : Directory) (spare : ℕ) (t : SnppState) (x : List ℕ) (left : ℕ) : Type 0 where
  pub heard : t.heard ≡ length x
  pub few : length x ≤ 999999
  pub kept : AreKept (cut x).rest t.kept t.count
  pub no_bye : has_bye (snpp_tell directory (snpp_start spare) (cut x).pieces) ≡ false
  pub course : snpp_course_at directory (snpp_start spare) (cut x).pieces ≡ record { pending = t.pending; spare = left }

-- Once it is over, nothing that comes changes the session.
abbrev pub SnppIsOver : Directory → ℕ → List ℕ → Type 0
SnppIsOver directory spare x = (y : List ℕ) → session directory spare (x ++ y) ≡ session directory spare x

-- one of both
abbrev pub SnppStandsAt : Bool → Directory → ℕ → SnppState → List ℕ → ℕ → Type 0
SnppStandsAt false directory spare t x left = SnppIsOpenAt directory spare t x left
SnppStandsAt true directory spare t x left = SnppIsOver directory spare x

-- The Snpp stands for the characters x, where at first so many cells were spare and now so many are left.
pub record SnppStands (directory : Directory) (spare : ℕ) (t : SnppState) (x : List ℕ) (left : ℕ) : Type 0 where
  pub at_end : SnppStandsAt t.over directory spare t x left
  pub report_is : t.report ≡ snpp_report_of (session directory spare x).answers (session directory spare x).pages

-- what is said: nothing for Nothing
abbrev pub snpp_said : SnppAnswer → List SnppAnswer
snpp_said Nothing = []
snpp_said Ok = Ok ∷ []
snpp_said Bye = Bye ∷ []
snpp_said TooLong = TooLong ∷ []
snpp_said Command = Command ∷ []
snpp_said Twice = Twice ∷ []
snpp_said Missing = Missing ∷ []
snpp_said Pager = Pager ∷ []
snpp_said Text = Text ∷ []
snpp_said Room = Room ∷ []

-- One character more: the Snpp stands for the longer list, whose session has this answer more, if one was given, and the pages that
-- the pool gained.
pub record SnppHearsOn (directory : Directory) (spare : ℕ) (new : SnppState) (x : List ℕ) (c : ℕ) (answer : SnppAnswer) (before after : Pool) : Type 0 where
  pub gained : List Page
  pub stands : SnppStands directory spare new (x ++ c ∷ []) after.spare
  pub answers_are : (session directory spare (x ++ c ∷ [])).answers ≡ (session directory spare x).answers ++ snpp_said answer
  pub pages_are : (session directory spare (x ++ c ∷ [])).pages ≡ (session directory spare x).pages ++ gained
  pub pool : Gains before after gained

-- an outcome was carried out: its answer, the number of its pages, what is pending, and the pool
pub record IsOutcomeDone (o : Outcome) (answer : SnppAnswer) (count : ℕ) (pending : Pending) (before after : Pool) : Type 0 where
  pub answer_is : answer ≡ o.answer
  pub count_is : count ≡ length o.pages
  pub pending_is : pending ≡ o.pending
  pub pool : Gains before after o.pages
