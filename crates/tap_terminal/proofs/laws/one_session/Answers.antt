use Rattle.tap_terminal.proofs.Sessions.{one_session}
use Rattle.tap_terminal.proofs.Fronts.{session_exists}
use Rattle.tap_terminal.proofs.laws.one_session.Goals as goal

pub returns-clause-some : goal.returns-clause-some
returns-clause-some c password directory spare x = session_exists password directory spare x

pub returns-clause-only : goal.returns-clause-only
returns-clause-only c password directory spare x a b h k = one_session password directory spare x a b h k
