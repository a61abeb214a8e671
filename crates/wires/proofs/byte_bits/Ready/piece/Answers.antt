use Rattle.std.proofs.Common.{length, arith, ◌∙◌, ap}
use Rattle.bits.proofs.Lengths.{length-bits_of}
use Rattle.wires.proofs.byte_bits.Ready.piece.Goals as goal

pub returns-in-Some-clause-few : goal.returns-in-Some-clause-few
returns-in-Some-clause-few c = let n = ap length c.of.ensures ∙ length-bits_of 32 c.in-Some.word in let m = c.if-most-lt32.false in omega arith

pub returns-in-Some-clause-end : goal.returns-in-Some-clause-end
returns-in-Some-clause-end c = λ e. let n = ap length c.of.ensures ∙ length-bits_of 32 c.in-Some.word in let l = ap length e in absurd (omega arith)
