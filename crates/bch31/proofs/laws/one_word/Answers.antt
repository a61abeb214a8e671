use Rattle.bch31.proofs.Fronts.{one_word}
use Rattle.bch31.proofs.laws.one_word.Goals as goal

pub returns : goal.returns
returns c = one_word
