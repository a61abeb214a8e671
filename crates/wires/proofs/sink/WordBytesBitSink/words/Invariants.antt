use Rattle.std.proofs.Common.{◌≡◌, List, ℕ, ◌++◌, length, Ok}
use Rattle.bits.specs.Bits.{words_bits}
use Rattle.wires.specs.Stacked.{bits_over}
use Rattle.wires.specs.Written.{Puts}
use Rattle.wires.specs.declared.Failed.{Failed}
use Rattle.wires.proofs.sink.WordBytesBitSink.words.Given as goal

-- the words that came before the rest are written
abbrev pub invariant-loop-rest : goal.invariant-loop-rest
invariant-loop-rest g l = (done : List ℕ) × (done ++ l.rest ≡ l.words)
    × Puts {E = Failed} (bits_over l.fn.self.sink.ghost_name (g.K.Sink.state l.fn.self.sink.now)) (bits_over l.self.sink.ghost_name (g.K.Sink.state l.self.sink.now)) (words_bits done) (Ok (tt {0}))

abbrev pub decreases-loop-rest : goal.decreases-loop-rest
decreases-loop-rest g l = length l.rest
