use Rattle.std.proofs.Common.{◌≡◌, ◌+◌, ◌/◌, ◌++◌, Bool, ap, replicate, sym, ◌∙◌}
use Rattle.sampler.specs.Stacked.{Counted}
use Rattle.sampler.proofs.Steps.{equal_counted}
use Rattle.sampler.proofs.counter.Counter.count_equal.Goals as goal

pub returns-clause-gives : goal.returns-clause-gives
returns-clause-gives c = λ rest.
    let last = ap (λ (v : Counted). v.last) c.self.view_is in
    let count = ap (λ (v : Counted). v.count) c.self.view_is in
    let t = c.self.inside.toward in
    let given : c.repeat.new.self ≡ c.args.bits.now ++ replicate ((t + c.args.n) / 8) c.args.self.now.last = c.repeat.ensures ∙ ap (λ (v : Bool). c.args.bits.now ++ replicate ((t + c.args.n) / 8) v) last in
    rw last (equal_counted c.args.self.now.last c.args.self.now.count t c.args.n rest c.args.bits.now c.repeat.new.self c.self.invariant (sym count) given)
