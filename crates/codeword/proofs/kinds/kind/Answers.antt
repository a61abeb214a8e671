use Rattle.codeword.proofs.Said.{kind_of-fix, kind_of-none}
use Rattle.codeword.proofs.kinds.kind.Goals as goal

pub returns-in-Some-clause-value : goal.returns-in-Some-clause-value
returns-in-Some-clause-value c = kind_of-fix c.args.w c.in-Some.codeword c.kind_of_front.result c.in-Some.ensures.value c.kind_of_front.ensures.value

pub returns-in-None-clause-value : goal.returns-in-None-clause-value
returns-in-None-clause-value c = kind_of-none c.args.w c.in-None.ensures.value
