use Rattle.tap_terminal.proofs.Fronts.{fronts}
use Rattle.tap_terminal.proofs.laws.fronts.Goals as goal

pub returns : goal.returns
returns c password directory spare x y front whole h k = fronts password directory spare x y front whole h k
