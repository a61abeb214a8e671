use Rattle.bch31.proofs.Apart.{six_apart}
use Rattle.bch31.proofs.laws.six_apart.Goals as goal

pub returns : goal.returns
returns c = six_apart
