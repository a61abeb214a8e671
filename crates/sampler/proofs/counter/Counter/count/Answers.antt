use Rattle.std.proofs.Common.{◌≡◌, ◌+◌, ◌*◌, ◌-◌, ◌%◌, ◌^◌, ◌++◌, Bool, List, ap, ◌∙◌, arith}
use Rattle.std.proofs.lemmas.Nat.{one_shl}
use Rattle.std.specs.Prelude.{not}
use Rattle.bits.specs.Bits.{bits_of}
use Rattle.sampler.specs.Stacked.{Counted, bits_after}
use Rattle.sampler.proofs.Edges.{all_counted, no_edge, to_edge, turned}
use Rattle.sampler.proofs.counter.Counter.count.Goals as goal

pub overflow_sub-left-in-loop-edges : goal.overflow_sub-left-in-loop-edges
overflow_sub-left-in-loop-edges c =
    let w = (to_edge c.loop-edges.self.last c.loop-edges.left c.ilog2-behind.result c.args.samples c.loop-edges.edges c.loop-edges.invariant.marks c.ilog2-behind.ensures.power_le c.ilog2-behind.ensures.next_power_gt).within in
    omega (arith, w)

pub loop-edges-preserved : goal.loop-edges-preserved
loop-edges-preserved c =
    let h = c.ilog2-behind.result in
    let i = c.loop-edges.invariant in
    let u = to_edge c.loop-edges.self.last c.loop-edges.left h c.args.samples c.loop-edges.edges i.marks c.ilog2-behind.ensures.power_le c.ilog2-behind.ensures.next_power_gt in
    let w = u.within in
    let last = ap (λ (v : Counted). v.last) c.turn.ensures in
    let count = ap (λ (v : Counted). v.count) c.turn.ensures in
    let ready = ap (λ (v : Counted). v.ready) c.turn.ensures in
    let one : 1 * 2 ^ h % 18446744073709551616 ≡ 2 ^ h = one_shl h 64 c.ilog2-behind.ensures.bound in
    let value = last ∙ ap not c.count_equal.ensures.last in
    record {
      gives = turned c.loop-edges.self.last c.count_equal.new.self.last c.turn.new.self.last c.loop-edges.self.count c.count_equal.new.self.count c.turn.new.self.count (c.loop-edges.left - 1 - h)
          (λ (rest : List Bool). bits_after c.args.self.now.last c.args.self.now.count (bits_of c.args.n c.args.samples ++ rest)) c.loop-edges.bits c.count_equal.new.bits (bits_of c.loop-edges.left c.args.samples) (bits_of (h + 1) c.args.samples) (bits_of h c.args.samples)
          i.gives u.equal u.turns c.count_equal.ensures.gives c.count_equal.ensures.last last count;
      marks = rw (one, value) u.marks;
      few = omega (arith, w, i.few, c.count_equal.ensures.few);
      ready = ready ∙ c.count_equal.ensures.ready ∙ i.ready;
    }

pub returns-clause-gives : goal.returns-clause-gives
returns-clause-gives c =
    let i = c.loop-edges.invariant in
    let z : c.loop-edges.edges ≡ 0 = omega (arith, c.loop-edges-test.false) in
    all_counted c.loop-edges.self.last c.count_equal-2.new.self.last c.loop-edges.self.count c.count_equal-2.new.self.count c.loop-edges.left
    (λ (rest : List Bool). bits_after c.args.self.now.last c.args.self.now.count (bits_of c.args.n c.args.samples ++ rest)) c.loop-edges.bits c.count_equal-2.new.bits (bits_of c.loop-edges.left c.args.samples)
    i.gives (no_edge c.loop-edges.self.last c.loop-edges.left c.args.samples c.loop-edges.edges i.marks z) c.count_equal-2.ensures.gives
