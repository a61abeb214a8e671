use Rattle.std.proofs.Common.{◌≡◌, length, arith, sym, ◌∙◌, ap, eqb-true, eq-eqb}
use Rattle.bits.proofs.Lengths.{length-bits_of}
use Rattle.receiver.proofs.register.Register.is_full.Goals as goal

pub returns : goal.returns
returns c =
    let n : length c.args.self.now ≡ c.self.inside.count = ap length (sym c.self.view_is) ∙ length-bits_of c.self.inside.count c.self.inside.bits in
    (λ t. let e = eqb-true c.self.inside.count 32 t in omega arith, λ l. eq-eqb c.self.inside.count 32 (let i = c.self.invariant in omega arith))
