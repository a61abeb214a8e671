use Rattle.std.proofs.Common.{◌≡◌, ℕ, ◌<◌, ◌^◌, length, arith, sym, ◌∙◌, ap}
use Rattle.bits.specs.Bits.{bits_of, number}
use Rattle.bits.proofs.Lengths.{length-bits_of}
use Rattle.bits.proofs.Numbers.{number-bits_of}
use Rattle.receiver.proofs.register.Register.word.Goals as goal

pub returns : goal.returns
returns c =
    let n : length c.args.self.now ≡ c.self.inside.count = ap length (sym c.self.view_is) ∙ length-bits_of c.self.inside.count c.self.inside.bits in
    let fits : c.self.inside.bits < 2 ^ 32 = omega arith in
    let full : c.self.inside.count ≡ 32 = sym n ∙ c.requires in
    sym (ap number (sym c.self.view_is ∙ ap (λ (k : ℕ). bits_of k c.self.inside.bits) full) ∙ number-bits_of 32 c.self.inside.bits fits)
