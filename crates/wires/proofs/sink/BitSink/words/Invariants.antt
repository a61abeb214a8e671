use Rattle.std.proofs.Common.{take, Ok}
use Rattle.bits.specs.Bits.{words_bits}
use Rattle.wires.specs.Written.{Puts}
use Rattle.wires.specs.declared.Failed.{Failed}
use Rattle.wires.proofs.sink.BitSink.words.Given as goal

-- the words so far are written
abbrev pub invariant-loop-w : goal.invariant-loop-w
invariant-loop-w g l = Puts {E = Failed} (g.Self.BitSink.state l.fn.self) (g.Self.BitSink.state l.self) (words_bits (take l.w-index l.words)) (Ok (tt {0}))
