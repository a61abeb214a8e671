use Rattle.std.proofs.Common.{◌≡◌, ◌+◌, ◌%◌, ◌++◌, Bool, List, ap, sym, ◌∙◌, subst}
use Rattle.sampler.specs.Stacked.{Counted, bits_after, counted_bits}
use Rattle.sampler.proofs.Edges.{first_counted}
use Rattle.sampler.proofs.counter.Counter.bits.Goals as goal

pub returns-clause-gives : goal.returns-clause-gives
returns-clause-gives c = λ rest.
    let s = c.self.inside in
    let a = c.count.new.self in
    subst (λ (v : Counted). counted_bits v rest ≡ c.piece.result ++ counted_bits a rest) c.self.view_is
    (first_counted s.last a.last ((s.toward + 4) % 8) a.count c.min-n.result c.take-samples.result s.ready a.ready c.piece.result rest c.take-samples.ensures.first (c.count.ensures.ready ∙ c.take-samples.ensures.left)
    (λ r. c.count.ensures.gives r ∙ ap (λ (l : List Bool). l ++ bits_after a.last a.count r) (sym c.piece.ensures)))
