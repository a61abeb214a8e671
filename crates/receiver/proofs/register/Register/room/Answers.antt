use Rattle.std.proofs.Common.{◌≡◌, length, arith, sym, ◌∙◌, ap}
use Rattle.bits.proofs.Lengths.{length-bits_of}
use Rattle.receiver.proofs.register.Register.room.Goals as goal

pub returns : goal.returns
returns c =
    let n : length c.args.self.now ≡ c.self.inside.count = ap length (sym c.self.view_is) ∙ length-bits_of c.self.inside.count c.self.inside.bits in
    omega (arith, c.self.invariant)
