use Rattle.snpp_entry.proofs.Sends.{at_line, pages_at_sends}
use Rattle.snpp_entry.proofs.laws.sends.Goals as goal

pub returns-clause-line : goal.returns-clause-line
returns-clause-line c directory spare p line = at_line directory spare p line

pub returns-clause-whole : goal.returns-clause-whole
returns-clause-whole c directory spare x = pages_at_sends directory spare x
