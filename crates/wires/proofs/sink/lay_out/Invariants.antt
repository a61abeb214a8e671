use Rattle.std.proofs.Common.{◌≡◌, ◌*◌, take}
use Rattle.wires.specs.Stacked.{words_bytes}
use Rattle.wires.proofs.sink.lay_out.Given as goal

-- the bytes of the words so far stand at the front
abbrev pub invariant-loop-k : goal.invariant-loop-k
invariant-loop-k l = take (4 * l.k) l.into ≡ words_bytes (take l.k l.words)
