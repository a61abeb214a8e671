use Rattle.std.proofs.Common.{◌≡◌, length, ap, ◌∙◌, arith}
use Rattle.bits.specs.Bits.{bits_of}
use Rattle.bits.proofs.Lengths.{length-bits_of}
use Rattle.sampler.proofs.Registers.{ones_run, repeated, zeros_run}
use Rattle.sampler.proofs.gathered.Gathered.repeat.Goals as goal
use Rattle.sampler.proofs.gathered.Gathered.repeat.Goals.{then-value, else-value}

pub invariant_of-self : goal.invariant_of-self
invariant_of-self c =
    let l : length (bits_of c.self.inside.count c.self.inside.bits) ≡ length c.args.self.now = ap length c.self.view_is in
    omega (arith, l, length-bits_of c.self.inside.count c.self.inside.bits, c.requires)

pub returns : goal.returns
returns c =
    repeated c.self.inside.count c.args.n c.from.result c.if-value.run c.args.value c.args.self.now (ap (bits_of c.self.inside.count) c.from.ensures ∙ c.self.view_is) c.requires (omega (arith, c.from.ensures))
    (elim c.if-value.branch [
      | then-value w ↦ rw w.if-value.true (ones_run c.args.n c.if-value.run (omega (arith, c.requires)) w.run-is)
      | else-value w ↦ rw w.if-value.false (zeros_run c.args.n c.if-value.run w.run-is)
    ])
