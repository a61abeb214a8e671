use Rattle.snpp_entry.proofs.Cuts.{joined_cut, clean_cut, one_cut}
use Rattle.snpp_entry.proofs.laws.cuts.Goals as goal

pub returns-clause-joined : goal.returns-clause-joined
returns-clause-joined c x = joined_cut x

pub returns-clause-pieces : goal.returns-clause-pieces
returns-clause-pieces c x = (clean_cut x).pieces

pub returns-clause-rest : goal.returns-clause-rest
returns-clause-rest c x = (clean_cut x).rest

pub returns-clause-only : goal.returns-clause-only
returns-clause-only c k h e = one_cut k h e
