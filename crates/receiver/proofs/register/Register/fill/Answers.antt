use Rattle.std.proofs.Common.{◌≡◌, arith}
use Rattle.receiver.proofs.Registers.{word_taken}
use Rattle.receiver.proofs.register.Register.fill.Goals as goal

pub returns-then-len-eq-WORD_BITS-clause-joined : goal.returns-then-len-eq-WORD_BITS-clause-joined
returns-then-len-eq-WORD_BITS-clause-joined c =
    let t = c.if-self-eq0.true in
    let z : c.self.inside.count ≡ 0 = omega arith in
    word_taken c.self.inside.count c.self.inside.bits c.args.self.now _ c.args.piece.now c.take_word.new.piece c.self.view_is z c.take_word.ensures.word c.take_word.ensures.none
