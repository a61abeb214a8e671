-- What the client's states stand for, and what a byte brings.
--
-- A state stands for all characters heard, with their marks. A step says which mark the byte completes, for which characters and marks
-- the next state stands, and what is said for them more.
use Rattle.std.specs.Prelude.{nat_le, if◌then◌else◌, ◌⊎◌, ◌≡◌, ◌≢◌, ℕ, ◌+◌, ◌≤◌, List, [], ◌∷◌, ◌++◌, Option, Some, None}
use Rattle.std.specs.List.{AllByRecursion}
use Rattle.std.specs.Option.{option_to_list}
use Rattle.tap_entry.specs.declared.hearing.Mark.{Mark}
use Rattle.tap_entry.specs.declared.hearing.Mark.TheVariants.{Id, Ack, Nak, Rs, End, Go}
use Rattle.tap_entry.specs.declared.outcomes.Outcome.{Outcome}
use Rattle.tap_entry.specs.declared.outcomes.Outcome.TheVariants.{Sent, Abandoned, TriesSpent, Disconnected}
use Rattle.tap_entry.specs.declared.transfer.SendStep.{SendStep}
use Rattle.tap_entry.specs.declared.transfer.SendStep.TheVariants.{Wait as WaitOn, Again, NextBlock, Done, Closed}
use Rattle.tap_entry.specs.declared.logon.CallStep.{CallStep}
use Rattle.tap_entry.specs.declared.logon.CallStep.TheVariants.{Wait, SayLogon, Go as GoesOn, Refused}
use Rattle.tap_entry.specs.declared.goodbye.LeaveStep.{LeaveStep}
use Rattle.tap_entry.specs.declared.goodbye.LeaveStep.TheVariants.{Wait as WaitOut, Gone}
use Rattle.tap_entry.specs.Marks.{AreMarks}
use Rattle.tap_entry.specs.MarkReaders.{ReaderStandsFor}
use Rattle.tap_entry.specs.Held.{Caller, Sender}
use Rattle.tap_entry.specs.Client.{IsCalling, DecidesLogon, naks, acks, logons, logon_line, AreSinceAck, IsUndecided, Decides, count_of, block_at, is_last_at, said_for}

-- what a caller has said: nothing before the first Id, and after it what the marks since then bring
abbrev pub CallsSo : Option (List ℕ) → List Mark → Option ℕ → List ℕ → Type 0
CallsSo password marks None said = AllByRecursion (λ m. (m ≢ Id) × (m ≢ End)) marks × (said ≡ [])
CallsSo password marks (Some n) said =
    (before : List Mark) × ((since : List Mark) × ((marks ≡ before ++ Id ∷ since) × AllByRecursion (λ m. (m ≢ Id) × (m ≢ End)) before
    × IsCalling since × (n ≡ naks since) × (n ≤ 2) × (said ≡ logons password since)))

-- The client stands for the characters heard, whose marks are these; behind its CR it has said this.
pub record CallingFor (c : Caller) (x : List ℕ) (marks : List Mark) (said : List ℕ) : Type 0 where
  pub hears : ReaderStandsFor c.ear x marks
  pub calls : CallsSo c.password marks c.refusals said

-- the logon is decided by the last of the marks
pub record IsLoggedOn (password : Option (List ℕ)) (marks : List Mark) (said : List ℕ) : Type 0 where
  pub before : List Mark
  pub since : List Mark
  pub marks_are : marks ≡ before ++ Id ∷ (since ++ Go ∷ [])
  pub ignored : AllByRecursion (λ m. (m ≢ Id) × (m ≢ End)) before
  pub calling : IsCalling since
  pub said_is : said ≡ logons password since

-- it is decided against the client: by an End before the first Id, or by a mark after it
abbrev pub IsClientRefused : Option (List ℕ) → List Mark → List ℕ → Type 0
IsClientRefused password marks said =
    ((before : List Mark) × ((marks ≡ before ++ End ∷ []) × AllByRecursion (λ m. (m ≢ Id) × (m ≢ End)) before × (said ≡ [])))
    ⊎ ((before : List Mark) × ((since : List Mark) × ((mark : Mark) × ((marks ≡ before ++ Id ∷ (since ++ mark ∷ [])) × AllByRecursion (λ m. (m ≢ Id) × (m ≢ End)) before
    × IsCalling since × DecidesLogon since mark × (mark ≢ Go) × (said ≡ logons password since)))))

-- a step: the marks heard with it, and what was said and is to be said
abbrev pub CallsOn : Option (List ℕ) → List ℕ → List Mark → List ℕ → CallStep → Type 0
CallsOn password x marks said (Wait next) = CallingFor next x marks said × (next.password ≡ password)
CallsOn password x marks said (SayLogon next) = CallingFor next x marks (said ++ logon_line password) × (next.password ≡ password)
CallsOn password x marks said (GoesOn next) = ReaderStandsFor next x marks × IsLoggedOn password marks said
CallsOn password x marks said Refused = AreMarks x marks × IsClientRefused password marks said

-- one byte more, which completes a mark or none
abbrev pub CallsFurther : Caller → List ℕ → List Mark → List ℕ → ℕ → CallStep → Type 0
CallsFurther c x marks said k step = (further : Option Mark) × CallsOn c.password (x ++ k ∷ []) (marks ++ option_to_list further) said step

-- the step that a mark brings a caller
abbrev pub call_by : Caller → Option ℕ → Option Mark → CallStep
call_by c n (Some End) = Refused
call_by c None (Some Id) = SayLogon (record c { refusals = Some 0 })
call_by c (Some n) (Some Go) = GoesOn c.ear
call_by c (Some n) (Some Nak) = if nat_le 2 n then Refused else SayLogon (record c { refusals = Some (n + 1) })
call_by c n mark = Wait c

-- The sender stands for the characters heard: the marks before the page's start and those since, which don't decide it.
pub record SendingFor (s : Sender) (x : List ℕ) (past since : List Mark) : Type 0 where
  pub hears : ReaderStandsFor s.ear x (past ++ since)
  pub undecided : IsUndecided (count_of s.content) since
  pub acks_are : s.acks ≡ acks since
  pub last : List Mark
  pub since_ack : AreSinceAck since last
  pub naks_are : s.naks ≡ naks last

-- the mark decides the page, and no earlier one did
pub record IsPageDecided (content : List ℕ) (since : List Mark) (further : Option Mark) (outcome : Outcome) : Type 0 where
  pub mark : Mark
  pub is_mark : further ≡ Some mark
  pub decides : Decides (count_of content) since mark outcome

-- a step: what is to be said is what the page's marks then say more
abbrev pub SendsOn : List ℕ → List ℕ → List Mark → List Mark → Option Mark → SendStep → Type 0
SendsOn content x past since further (WaitOn next) = SendingFor next x past (since ++ option_to_list further) × (next.content ≡ content)
    × (said_for content (since ++ option_to_list further) ≡ said_for content since)
SendsOn content x past since further (Again next) = SendingFor next x past (since ++ option_to_list further) × (next.content ≡ content)
    × (said_for content (since ++ option_to_list further) ≡ said_for content since ++ block_at content next.acks) × (further ≡ Some Nak)
SendsOn content x past since further (NextBlock next) = SendingFor next x past (since ++ option_to_list further) × (next.content ≡ content)
    × (said_for content (since ++ option_to_list further) ≡ said_for content since ++ block_at content next.acks) × (further ≡ Some Ack)
SendsOn content x past since further (Done next outcome) = ReaderStandsFor next x (past ++ (since ++ option_to_list further)) × IsPageDecided content since further outcome × ((outcome ≡ Sent) ⊎ (outcome ≡ Abandoned))
SendsOn content x past since further (Closed outcome) = AreMarks x (past ++ (since ++ option_to_list further)) × IsPageDecided content since further outcome × ((outcome ≡ TriesSpent) ⊎ (outcome ≡ Disconnected))

-- one byte more, which completes a mark or none
abbrev pub SendsFurther : Sender → List ℕ → List Mark → List Mark → ℕ → SendStep → Type 0
SendsFurther s x past since k step = (further : Option Mark) × SendsOn s.content (x ++ k ∷ []) past since further step

-- the step that a mark brings a sender
abbrev pub send_by : Sender → Option Mark → SendStep
send_by s (Some Ack) = if is_last_at s.content s.acks then Done s.ear Sent else NextBlock (record s { acks = s.acks + 1; naks = 0 })
send_by s (Some Nak) = if nat_le 2 s.naks then Closed TriesSpent else Again (record s { naks = s.naks + 1 })
send_by s (Some Rs) = Done s.ear Abandoned
send_by s (Some End) = Closed Disconnected
send_by s mark = WaitOn s

-- a step while the client leaves: it is gone exactly at an End
abbrev pub LeavesOn : List ℕ → List Mark → Option Mark → LeaveStep → Type 0
LeavesOn x marks further (WaitOut next) = ReaderStandsFor next x (marks ++ option_to_list further) × (further ≢ Some End)
LeavesOn x marks further Gone = AreMarks x (marks ++ option_to_list further) × (further ≡ Some End)

-- one byte more, which completes a mark or none
abbrev pub LeavesFurther : List ℕ → List Mark → ℕ → LeaveStep → Type 0
LeavesFurther x marks k step = (further : Option Mark) × LeavesOn (x ++ k ∷ []) marks further step
