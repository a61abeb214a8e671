use Rattle.std.proofs.Common.{◌≡◌, ◌∙◌}
use Rattle.bits.specs.Bits.{bit_value}
use Rattle.receiver.proofs.Hunts.{bool_byte_value}
use Rattle.receiver.proofs.Registers.{push_partial, push_whole}
use Rattle.receiver.proofs.register.Register.push.Goals as goal

pub returns-then-self-lt-WORD_BITS : goal.returns-then-self-lt-WORD_BITS
returns-then-self-lt-WORD_BITS c = let v : c.from.result ≡ bit_value c.args.bit = c.from.ensures ∙ bool_byte_value c.args.bit in
    push_partial c.self.inside.count c.self.inside.bits c.from.result c.args.bit _ c.self.view_is c.if-self-lt-WORD_BITS.true v

pub returns-else-self-lt-WORD_BITS : goal.returns-else-self-lt-WORD_BITS
returns-else-self-lt-WORD_BITS c = let v : c.from.result ≡ bit_value c.args.bit = c.from.ensures ∙ bool_byte_value c.args.bit in
    push_whole c.self.inside.count c.self.inside.bits c.from.result c.args.bit _ c.self.view_is c.if-self-lt-WORD_BITS.false c.self.invariant v
