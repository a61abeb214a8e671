use Rattle.std.proofs.Common.{arith}
use Rattle.std.proofs.lemmas.Grind.{common_steps}
use Rattle.bits.proofs.Lengths.{length-words_bits}
use Rattle.wires.proofs.callers.words_over.Goals as goal

pub returns-clause-steady : goal.returns-clause-steady
returns-clause-steady g c t s fits = grind (arith, common_steps, length-words_bits c.args.words.now)
