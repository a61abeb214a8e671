use Rattle.bits.specs.Bits.{word_bits}
use Rattle.wires.proofs.Written.{Puts-then}
use Rattle.wires.proofs.callers.two_words.Goals as goal

pub returns : goal.returns
returns g c = Puts-then _ _ _ (word_bits c.args.first) (word_bits c.args.second) _ _ c.in_ok-word.ensures c.word-2.ensures
