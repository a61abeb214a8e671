use Rattle.std.proofs.Common.{ap, ◌∙◌}
use Rattle.tap_terminal.specs.declared.report.Report.{Report}
use Rattle.tap_terminal.proofs.Counted.{session_counted}
use Rattle.tap_terminal.proofs.Feeds.{stands_session}
use Rattle.tap_terminal.proofs.laws.counted.Goals as goal

pub returns-clause-session : goal.returns-clause-session
returns-clause-session c password directory spare x session h = session_counted password directory spare x session h

pub returns-clause-terminal : goal.returns-clause-terminal
returns-clause-terminal c password directory spare left t x session h =
    ap (λ (r : Report). r.pages) h.report_is ∙ session_counted password directory spare x session (stands_session password directory spare t x session left h)
