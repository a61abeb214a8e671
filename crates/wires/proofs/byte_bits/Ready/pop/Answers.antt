use Rattle.std.proofs.Common.{arith, sym, ◌∙◌, ◌≡◌, []}
use Rattle.wires.proofs.Ahead.{none_ready, begins, goes_on}
use Rattle.wires.proofs.byte_bits.Ready.pop.Goals as goal

pub returns-then-self : goal.returns-then-self
returns-then-self c =
    let none : c.args.self.now ≡ [] = sym c.self.view_is ∙ none_ready c.self.inside.pending c.self.inside.byte c.self.inside.at c.self.inside.end c.self.inside.bytes c.if-self-eq0.true c.if-self.true in
    (none, none)

pub returns-then-self-eq0 : goal.returns-then-self-eq0
returns-then-self-eq0 c =
    sym c.self.view_is ∙ begins c.self.inside.pending c.self.inside.byte c.self.inside.at c.self.inside.end c.self.inside.bytes c.if-self-eq0.true
    (omega (arith, c.self.invariant.0, c.if-self.false)) (omega (arith, c.self.invariant.1, c.self.told))

pub returns : goal.returns
returns c = sym c.self.view_is ∙ goes_on c.self.inside.pending c.self.inside.byte _ c.if-self-eq0.false
