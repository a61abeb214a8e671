use Rattle.std.proofs.Common.{sym, ◌∙◌}
use Rattle.wires.proofs.Noise.{noisy_turn}
use Rattle.wires.specs.Stacked.{noisy_over}
use Rattle.wires.proofs.source.NoisyBitSource.bit.Goals as goal

pub returns-in-Some : goal.returns-in-Some
returns-in-Some g c =
    let old = noisy_over c.args.self.now.noise.ghost_name c.args.self.now.held (g.B.BitSource.state c.args.self.now.bits) (g.N.BitSource.state c.args.self.now.noise.now) in
    let new = c.hold.new.self in
    noisy_turn new.noise.ghost_name old (g.B.BitSource.state new.bits) (g.N.BitSource.state new.noise.now) (g.N.BitSource.state c.bit.new.self) new.held c.take.new.self c.in-Some.bit c.in_ok-hold.field-0 c.unwrap_or.result c.in_ok-noise.noise
    (sym c.take.ensures.value ∙ c.in-Some.is) c.take.ensures.after c.unwrap_or.ensures c.if-not-branch.false c.in_ok-hold.ensures.peeks c.in_ok-noise.ensures
