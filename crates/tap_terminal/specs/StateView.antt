-- What a terminal's fields stand for.
use Rattle.std.specs.Prelude.{◌*◌, ◌≤◌}
use Rattle.tap_terminal.specs.declared.terminal.Terminal.TheInside.{Inside}
use Rattle.tap_terminal.specs.State.{TerminalState}
use Rattle.tap_terminal.specs.Reports.{tally}

-- the fields of a terminal
abbrev pub terminal_state_of : Inside → TerminalState
terminal_state_of t = record { password = t.password; scanner = t.scanner; joined = t.joined.items; heard = t.heard; wrong = t.wrong; report = t.report; stage = t.stage }

-- each item has at least one character, and queues at most 16 pages
pub record TerminalIsInRange (t : Inside) : Type 0 where
  pub heard_bound : t.heard ≤ 999999
  pub wrong_bound : t.wrong ≤ t.heard
  pub report_bound : tally t.report ≤ 16 * t.heard
