use Rattle.std.proofs.Common.{◌≡◌, ◌∙◌, ap, arith}
use Rattle.std.proofs.lemmas.Grind.{common_steps}
use Rattle.wires.proofs.Noise.{noisy_lent}
use Rattle.wires.proofs.callers.skip_noisy.Goals as goal

pub returns-clause-lent : goal.returns-clause-lent
returns-clause-lent g c =
    let old = c.over-noisy.result in
    let new = c.skip.new.bits in
    let kept : (g.N.BitSource.state c.drop-noisy.new.self.0).lent ≡ (g.N.BitSource.state c.args.noise.now).lent =
    ap (λ x. (g.N.BitSource.state x).lent) c.drop-noisy.ensures
    ∙ (noisy_lent new.noise.ghost_name old.noise.ghost_name old.held new.held (g.B.BitSource.state old.bits) (g.B.BitSource.state new.bits) (g.N.BitSource.state old.noise.now) (g.N.BitSource.state new.noise.now) c.skip.ensures.lent
    ∙ ap (λ x. (g.N.BitSource.state x).lent) c.over-noisy.ensures.same) in
    grind (arith, common_steps, kept)
