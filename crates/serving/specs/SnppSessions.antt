-- A session of the SNPP entry line.
use Rattle.std.specs.Prelude.{◌≡◌, ℕ, List, [], map, if◌then◌else◌}
use Rattle.std.specs.List.{list_any}
use Rattle.entry_line.specs.Chars.{char_of}
use Rattle.snpp_entry.specs.Session.{SnppSession, is_for_length, session as snpp_session}
use Rattle.snpp_entry.specs.State.{SnppState, SnppStands}
use Rattle.subscribers.specs.Directory.{directory_of}
use Rattle.subscribers.specs.Parts.{Parts}
use Rattle.serving.specs.declared.session.SessionEnd.{SessionEnd}
use Rattle.serving.specs.declared.session.SessionEnd.TheVariants.{Ended, Forced}

-- the session of these bytes under the settings, with so many spare cells at first
abbrev pub snpp_session_for : Parts → ℕ → List ℕ → SnppSession
snpp_session_for settings spare bytes = snpp_session (directory_of settings) spare (map char_of bytes)

-- The Snpp stands for these bytes, whose session under the settings this is, and so many cells are left.
pub record SnppStandsFor (settings : Parts) (spare : ℕ) (state : SnppState) (bytes : List ℕ) (session : SnppSession) (left : ℕ) : Type 0 where
  pub stands : SnppStands (directory_of settings) spare state (map char_of bytes) left
  pub session_is : session ≡ snpp_session_for settings spare bytes

-- the session of no byte
abbrev pub snpp_unheard : SnppSession
snpp_unheard = record { answers = []; pages = [] }

-- the end of a session that an answer ended
abbrev pub snpp_end : SnppSession → SessionEnd
snpp_end session = if list_any is_for_length session.answers then Forced else Ended
