-- How the client of the entry line comes on while its connection is open.
use Rattle.std.specs.Prelude.{◌≡◌, ◌≢◌, ◌⊎◌, ℕ, ◌≤◌, List, [], ◌∷◌, ◌++◌, length, drop, Ok, Err}
use Rattle.std.specs.List.{AllByRecursion}
use Rattle.entry_line.specs.Chars.{cr}
use Rattle.tap_entry.specs.declared.hearing.Mark.{Mark}
use Rattle.tap_entry.specs.declared.hearing.Mark.TheVariants.{Id, Nak, End, Go}
use Rattle.tap_entry.specs.declared.outcomes.Outcome.{Outcome}
use Rattle.tap_entry.specs.declared.outcomes.Outcome.TheVariants.{TriesSpent, Disconnected, NoLogon}
use Rattle.tap_entry.specs.Client.{Client, PageToSend, Sends, all_are, content, good_bye, said_for, IsCalling, naks}
use Rattle.tap_entry.specs.MarkReaders.{MarkReader, ReaderStandsFor}
use Rattle.tap_entry.specs.Held.{Caller, Sender}
use Rattle.tap_entry.specs.Marks.{AreMarks}
use Rattle.tap_entry.specs.PagesFile.{FileContent, most_pages}
use Rattle.tap_entry.specs.States.{CallingFor, SendingFor}
use Rattle.wires.specs.Below.{Speaks}
use Rattle.wires.specs.Line.{Line}
use Rattle.wires.specs.declared.Failed.{Failed}
use Rattle.calling.specs.declared.stages.Ending.{Ending}
use Rattle.calling.specs.declared.stages.Ending.TheVariants.{Over, Lost}
use Rattle.calling.specs.declared.stages.Logon.{Logon}
use Rattle.calling.specs.declared.stages.Logon.TheVariants.{Pending, Granted}
use Rattle.calling.specs.declared.stages.Stage.{Stage}
use Rattle.calling.specs.declared.stages.Stage.TheVariants.{Calling, Sending, Leaving}
use Rattle.calling.specs.declared.stages.Step.{Step}
use Rattle.calling.specs.declared.stages.Step.TheVariants.{On, Ends}

-- what becomes of the pages that have no outcome where the connection ends
abbrev pub unfinished : Logon → Outcome
unfinished Pending = NoLogon
unfinished Granted = Disconnected

-- the outcomes of all pages where the connection ends and these were decided
abbrev pub outcomes_of : FileContent → Logon → List Outcome → List Outcome
outcomes_of told logon done = done ++ all_are (unfinished logon) (drop (length done) told.pages)

-- before the first Id a mark is neither this nor an End
abbrev pub IsIgnored : Mark → Type 0
IsIgnored m = (m ≢ Id) × (m ≢ End)

-- Go decided the logon.
pub record HeardGo (marks : List Mark) : Type 0 where
  pub before : List Mark
  pub since : List Mark
  pub rest : List Mark
  pub marks_are : marks ≡ before ++ Id ∷ (since ++ Go ∷ rest)
  pub ignored : AllByRecursion IsIgnored before
  pub calling : IsCalling since

-- The third Nak decided the logon.
pub record RefusesLogon (marks : List Mark) : Type 0 where
  pub before : List Mark
  pub since : List Mark
  pub rest : List Mark
  pub marks_are : marks ≡ before ++ Id ∷ (since ++ Nak ∷ rest)
  pub ignored : AllByRecursion IsIgnored before
  pub calling : IsCalling since
  pub third : naks since ≡ 2

-- A page is TriesSpent.
pub record SpendsTries (told : FileContent) (marks : List Mark) : Type 0 where
  pub outcomes : List Outcome
  pub said : List ℕ
  pub client : Client told.password told.pages marks outcomes said
  pub before : List Outcome
  pub behind : List Outcome
  pub spent : outcomes ≡ before ++ TriesSpent ∷ behind

-- an End is among the marks
abbrev pub HasEnd : List Mark → Type 0
HasEnd marks = (before : List Mark) × ((rest : List Mark) × (marks ≡ before ++ End ∷ rest))

-- The marks end the call: an End is among them, or the third Nak of the logon, or a Nak that makes a page TriesSpent.
abbrev pub EndsCall : FileContent → List Mark → Type 0
EndsCall told marks = HasEnd marks ⊎ (RefusesLogon marks ⊎ SpendsTries told marks)

-- Go was heard in the past marks, no End, and no page that is decided has spent its tries. Whatever is heard further, what becomes of the
-- pages that are left, and what is said for them, comes behind the outcomes so far and what was said.
pub record Between (told : FileContent) (left : List PageToSend) (past : List Mark) (done : List Outcome) (said : List ℕ) : Type 0 where
  pub few : length told.pages ≤ most_pages
  pub left_is : left ≡ drop (length done) told.pages
  pub go : HeardGo past
  pub no_end : AllByRecursion (λ m. m ≢ End) past
  pub unspent : AllByRecursion (λ o. o ≢ TriesSpent) done
  pub leads : (further : List Mark) (others : List Outcome) (more : List ℕ) → Sends left further others more → Client told.password told.pages (past ++ further) (done ++ others) (said ++ more)

-- The client calls, and stands for the characters heard with their marks and for what was said, CR included.
pub record CallsAt (told : FileContent) (c : Caller) (done : List Outcome) (x : List ℕ) (marks : List Mark) (said : List ℕ) : Type 0 where
  pub few : length told.pages ≤ most_pages
  pub password : c.password ≡ told.password
  pub none : done ≡ []
  pub spoken : List ℕ
  pub stands : CallingFor c x marks spoken
  pub said_is : said ≡ cr ∷ spoken

-- The client sends the first of the pages that are left.
pub record SendsAt (told : FileContent) (s : Sender) (done : List Outcome) (x : List ℕ) (marks : List Mark) (said : List ℕ) : Type 0 where
  pub page : PageToSend
  pub left : List PageToSend
  pub past : List Mark
  pub since : List Mark
  pub spoken : List ℕ
  pub between : Between told (page ∷ left) past done spoken
  pub stands : SendingFor s x past since
  pub content_is : s.content ≡ content page
  pub marks_are : marks ≡ past ++ since
  pub said_is : said ≡ spoken ++ said_for (content page) since

-- The client has said good-bye after the last page.
pub record LeavesAt (told : FileContent) (e : MarkReader) (done : List Outcome) (x : List ℕ) (marks : List Mark) (said : List ℕ) : Type 0 where
  pub past : List Mark
  pub since : List Mark
  pub spoken : List ℕ
  pub between : Between told [] past done spoken
  pub stands : ReaderStandsFor e x marks
  pub marks_are : marks ≡ past ++ since
  pub no_end : AllByRecursion (λ m. m ≢ End) since
  pub said_is : said ≡ spoken ++ good_bye

-- the client stands at this stage
abbrev pub At : FileContent → Stage → List Outcome → List ℕ → List Mark → List ℕ → Type 0
At told (Calling c) done x marks said = CallsAt told c done x marks said
At told (Sending s) done x marks said = SendsAt told s done x marks said
At told (Leaving e) done x marks said = LeavesAt told e done x marks said

-- whether the client was logged on
abbrev pub logon_of_stage : Stage → Logon
logon_of_stage (Calling c) = Pending
logon_of_stage (Sending s) = Granted
logon_of_stage (Leaving e) = Granted

abbrev pub logon_of : Ending → Logon
logon_of (Over logon) = logon
logon_of (Lost logon) = logon

abbrev pub logon_at : Step → Logon
logon_at (On stage) = logon_of_stage stage
logon_at (Ends ending) = logon_of ending

-- Go was heard exactly where the client was logged on
abbrev pub IsLogon : Logon → List Mark → Type 0
IsLogon Pending marks = HeardGo marks → ⊥
IsLogon Granted marks = HeardGo marks

-- the piece was said, or saying it failed and the call is lost
abbrev pub Spoke : Line → Line → List ℕ → Step → Type 0
Spoke old new piece (Ends (Lost logon)) = (e : Failed) × Speaks {T = Unit {0}} old new piece (Err e)
Spoke old new piece other = Speaks {E = Failed} old new piece (Ok (tt {0}))

-- the piece was said and the client goes on so, or saying it failed
abbrev pub SpokeThen : Line → Line → List ℕ → Step → Logon → Step → Type 0
SpokeThen old new piece next logon step =
    ((step ≡ next) × Speaks {E = Failed} old new piece (Ok (tt {0})))
    ⊎ ((step ≡ Ends (Lost logon)) × ((e : Failed) × Speaks {T = Unit {0}} old new piece (Err e)))

-- the client stands there where it goes on, and the marks end the call where it is over
abbrev pub StandsAfter : FileContent → Step → List Outcome → List ℕ → List Mark → List ℕ → Type 0
StandsAfter told (On stage) done x marks said = At told stage done x marks said
StandsAfter told (Ends (Over logon)) done x marks said = EndsCall told marks
StandsAfter told (Ends (Lost logon)) done x marks said = Unit {0}

-- The characters heard have these marks, for which this piece is said more, and it was said or that failed. If nothing more is heard,
-- the outcomes and what is said are those of the marks.
pub record Moves (told : FileContent) (x said : List ℕ) (old new : Line) (done : List Outcome) (step : Step) : Type 0 where
  pub marks : List Mark
  pub piece : List ℕ
  pub marks_are : AreMarks x marks
  pub client : Client told.password told.pages marks (outcomes_of told (logon_at step) done) (said ++ piece)
  pub logon : IsLogon (logon_at step) marks
  pub spoke : Spoke old new piece step
  pub stands : StandsAfter told step done x marks (said ++ piece)
