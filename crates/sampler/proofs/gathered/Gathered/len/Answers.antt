use Rattle.std.proofs.Common.{length, sym, ◌∙◌, ap}
use Rattle.bits.proofs.Lengths.{length-bits_of}
use Rattle.sampler.proofs.gathered.Gathered.len.Goals as goal

pub returns-clause-length : goal.returns-clause-length
returns-clause-length c = sym (ap length (sym c.self.view_is) ∙ length-bits_of c.self.inside.count c.self.inside.bits)
