-- A session of the TAP entry line.
use Rattle.std.specs.Prelude.{ℕ, Bool, List, if◌then◌else◌}
use Rattle.std.specs.List.{list_any}
use Rattle.subscribers.specs.Directory.{directory_of}
use Rattle.subscribers.specs.Parts.{Parts}
use Rattle.tap_block.specs.Chars.{characters}
use Rattle.tap_terminal.specs.declared.answers.Answer.{Answer}
use Rattle.tap_terminal.specs.Session.{IsSession, Session, is_end}
use Rattle.tap_terminal.specs.State.{TerminalState, Stands}
use Rattle.serving.specs.declared.session.SessionEnd.{SessionEnd}
use Rattle.serving.specs.declared.session.SessionEnd.TheVariants.{Ended, Forced}

-- this is the session of these bytes under the settings, with so many spare cells at first
abbrev pub SessionOf : Parts → ℕ → List ℕ → Session → Type 0
SessionOf settings spare bytes session = IsSession settings.password (directory_of settings) spare (characters bytes) session

-- the terminal stands for these bytes, whose session under the settings this is, and so many cells are left
abbrev pub TerminalStandsFor : Parts → ℕ → TerminalState → List ℕ → Session → ℕ → Type 0
TerminalStandsFor settings spare desk bytes session left = Stands settings.password (directory_of settings) spare desk (characters bytes) session left

-- an End is among the answers
abbrev pub has_end_answer : List Answer → Bool
has_end_answer answers = list_any is_end answers

-- the end of a session that the terminal ended
abbrev pub end_decided : Bool → SessionEnd
end_decided forced = if forced then Forced else Ended
