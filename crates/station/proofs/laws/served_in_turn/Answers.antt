use Rattle.serving.proofs.WholeSessions.{all_in_turn}
use Rattle.station.proofs.laws.served_in_turn.Goals as goal

pub returns : goal.returns
returns c = all_in_turn
