use Rattle.std.proofs.Common.{arith, sym, ◌∙◌}
use Rattle.wires.proofs.Ahead.{next_word}
use Rattle.wires.proofs.byte_bits.Ready.word.Goals as goal

pub returns : goal.returns
returns c =
    sym c.self.view_is
    ∙ next_word c.self.inside.pending c.self.inside.byte c.self.inside.at c.self.inside.end c.self.inside.bytes _ _ _ _ c.if-self-ne0.false
    (omega (arith, c.self.invariant.0, c.if-self-lt4.false)) (omega (arith, c.self.invariant.1, c.self.told))
    c.from-first.ensures c.from-second.ensures c.from-third.ensures c.from-fourth.ensures (omega arith) (omega arith) (omega arith)
