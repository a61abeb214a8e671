use Rattle.std.proofs.Common.{◌∙◌}
use Rattle.load.proofs.Generator.{generator_at-zero}
use Rattle.load.proofs.draws.Draws.of.Goals as goal

pub returns : goal.returns
returns c = c.new.ensures ∙ generator_at-zero c.args.seed
