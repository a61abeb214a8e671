use Rattle.bits.specs.Bits.{word_bits}
use Rattle.wires.proofs.Written.{Puts-turn-fails}
use Rattle.wires.proofs.sink.BitSink.words.Goals as goal

pub returns-in_err-word : goal.returns-in_err-word
returns-in_err-word g c =
    Puts-turn-fails word_bits c.args.words.now c.loop-w.w-index 0 c.loop-w-test.true _ _ _ _ _ _ c.from_residual.ensures.0 c.loop-w.invariant c.in_err-word.ensures
