use Rattle.codeword.proofs.Said.{kinds}
use Rattle.codeword.proofs.laws.kinds.Goals as goal

pub returns : goal.returns
returns c = kinds
