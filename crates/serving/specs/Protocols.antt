-- The protocols of the entry lines, and what a session is in each.
use Rattle.std.specs.Prelude.{◌≡◌, ℕ, Bool, List, [], ◌++◌, flat_map, if◌then◌else◌}
use Rattle.std.specs.List.{list_any}
use Rattle.page_text.specs.Page.{Page}
use Rattle.subscribers.specs.Parts.{Parts}
use Rattle.snpp_entry.specs.declared.answers.SnppAnswer.{SnppAnswer}
use Rattle.snpp_entry.specs.Replies.{snpp_reply, the_greeting}
use Rattle.snpp_entry.specs.Reports.{snpp_report_of}
use Rattle.snpp_entry.specs.Session.{SnppSession, is_final}
use Rattle.snpp_entry.specs.State.{SnppState, snpp_said}
use Rattle.tap_terminal.specs.declared.answers.Answer.{Answer}
use Rattle.tap_terminal.specs.Replies.{reply_of}
use Rattle.tap_terminal.specs.Session.{Session, is_end}
use Rattle.tap_terminal.specs.State.{TerminalState, said, unheard}
use Rattle.serving.specs.declared.session.SessionEnd.{SessionEnd}
use Rattle.serving.specs.declared.session.SessionEnd.TheVariants.{HungUp}
use Rattle.serving.specs.ReportLine.{report_line, snpp_report_line}
use Rattle.serving.specs.SnppSessions.{SnppStandsFor, snpp_end, snpp_session_for, snpp_unheard}
use Rattle.serving.specs.TapSessions.{SessionOf, TerminalStandsFor, end_decided}

-- the protocol of an entry line
pub data Protocol : Type 0 where
  tap : Protocol
  snpp : Protocol

-- what a byte is answered
abbrev pub AnswerIn : Protocol → Type 0
AnswerIn tap = Answer
AnswerIn snpp = SnppAnswer

-- what a session comes to
abbrev pub SessionIn : Protocol → Type 0
SessionIn tap = Session
SessionIn snpp = SnppSession

-- what an entry line holds
abbrev pub StateIn : Protocol → Type 0
StateIn tap = TerminalState
StateIn snpp = SnppState

-- what is said before anything is heard
abbrev pub greeting_in : Protocol → List ℕ
greeting_in tap = []
greeting_in snpp = the_greeting

-- this is the session of these bytes under the settings, with so many spare cells at first
abbrev pub IsSessionIn : (p : Protocol) → Parts → ℕ → List ℕ → SessionIn p → Type 0
IsSessionIn tap settings spare bytes session = SessionOf settings spare bytes session
IsSessionIn snpp settings spare bytes session = session ≡ snpp_session_for settings spare bytes

-- the entry line stands for these bytes, whose session under the settings this is, and so many cells are left
abbrev pub StandsIn : (p : Protocol) → Parts → ℕ → StateIn p → List ℕ → SessionIn p → ℕ → Type 0
StandsIn tap settings spare state bytes session left = TerminalStandsFor settings spare state bytes session left
StandsIn snpp settings spare state bytes session left = SnppStandsFor settings spare state bytes session left

-- the session of no byte
abbrev pub unheard_in : (p : Protocol) → SessionIn p
unheard_in tap = unheard
unheard_in snpp = snpp_unheard

-- the answers of a session
abbrev pub answers_in : (p : Protocol) → SessionIn p → List (AnswerIn p)
answers_in tap session = session.answers
answers_in snpp session = session.answers

-- the pages that were queued in a session
abbrev pub queued_in : (p : Protocol) → SessionIn p → List Page
queued_in tap session = session.pages
queued_in snpp session = session.pages

-- the answer, and none for Nothing
abbrev pub said_in : (p : Protocol) → AnswerIn p → List (AnswerIn p)
said_in tap answer = said answer
said_in snpp answer = snpp_said answer

-- the bytes of an answer
abbrev pub reply_in : (p : Protocol) → AnswerIn p → List ℕ
reply_in tap answer = reply_of answer
reply_in snpp answer = snpp_reply answer

-- the answer ends the session
abbrev pub is_last : (p : Protocol) → AnswerIn p → Bool
is_last tap answer = is_end answer
is_last snpp answer = is_final answer

-- the end of a session that an answer ended
abbrev pub end_in : (p : Protocol) → SessionIn p → SessionEnd
end_in tap session = end_decided session.forced
end_in snpp session = snpp_end session

-- the report line of a session: its number and how it ended
abbrev pub line_in : (p : Protocol) → ℕ → SessionEnd → SessionIn p → List ℕ
line_in tap number end session = report_line number end session.report
line_in snpp number end session = snpp_report_line number end (snpp_report_of session.answers session.pages)

-- an answer of the session ended it
abbrev pub has_last : (p : Protocol) → SessionIn p → Bool
has_last p session = list_any (is_last p) (answers_in p session)

-- how a session ends whose line isn't lost
abbrev pub ends_as : (p : Protocol) → SessionIn p → SessionEnd
ends_as p session = if has_last p session then end_in p session else HungUp

-- the replies of a session, one after another
abbrev pub replies_in : (p : Protocol) → SessionIn p → List ℕ
replies_in p session = flat_map (reply_in p) (answers_in p session)

-- all that is said in a session: the greeting, and then the replies
abbrev pub spoken : (p : Protocol) → SessionIn p → List ℕ
spoken p session = greeting_in p ++ replies_in p session
