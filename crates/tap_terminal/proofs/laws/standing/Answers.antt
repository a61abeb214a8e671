use Rattle.tap_terminal.proofs.Feeds.{stands_session}
use Rattle.tap_terminal.proofs.laws.standing.Goals as goal

pub returns : goal.returns
returns c password directory spare left t x session h = stands_session password directory spare t x session left h
