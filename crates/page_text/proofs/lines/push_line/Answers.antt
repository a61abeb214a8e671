use Rattle.std.proofs.Common.{arith}
use Rattle.std.proofs.lemmas.Grind.{common_steps}
use Rattle.page_text.specs.Line.{line_of}
use Rattle.page_text.proofs.lines.push_line.Goals as goal

pub returns : goal.returns
unfolding line_of
returns g c = grind (arith, common_steps)
