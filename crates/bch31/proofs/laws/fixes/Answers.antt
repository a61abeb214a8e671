use Rattle.bch31.proofs.Fixes.{fixes}
use Rattle.bch31.proofs.laws.fixes.Goals as goal

pub returns : goal.returns
returns c = fixes
