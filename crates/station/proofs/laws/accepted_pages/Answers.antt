use Rattle.station.proofs.ProtocolSessions.{are_acceptable}
use Rattle.station.proofs.laws.accepted_pages.Goals as goal

pub returns : goal.returns
returns c = are_acceptable
