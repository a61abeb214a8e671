use Rattle.std.proofs.Common.{◌∙◌, ◌+◌, ◌≤◌, ◌++◌, List, Bool, IsTrue, refl, sym, ap, subst, arith}
use Rattle.wires.proofs.Pieces.{none_left}
use Rattle.line_writer.proofs.SampleBytes.{gathers, some_come}
use Rattle.line_writer.proofs.sample_bytes.next_samples.Goals as goal

pub loop-count-init : goal.loop-count-init
loop-count-init g c = record {
  told = c.requires.told;
  steady = c.requires.steady;
  so_far = record { takes = ap (λ (xs : List Bool). xs ++ (g.B.BitSource.state c.args.samples.now).left) (sym (none_left 0 0 refl)); small = omega arith };
  few = omega arith;
  lent = refl;
}

pub loop-count-smaller : goal.loop-count-smaller
loop-count-smaller g c =
    let some = some_come _ _ c.in-Ok.piece _ _ c.args.asked c.loop-count.invariant.so_far c.requires.enough c.loop-count-test.true (c.in-Ok.ensures.left c.loop-count.invariant.told).1 in
    omega (arith, some, c.len-count.ensures.length, c.in-Ok.ensures.few, c.loop-count-test.true)

pub loop-count-preserved : goal.loop-count-preserved
loop-count-preserved g c =
    let v = c.loop-count.invariant in
    let few : c.loop-count.count + c.len-count.result ≤ c.args.asked = omega (arith, c.in-Ok.ensures.few, c.len-count.ensures.length, c.loop-count-test.true) in
    record {
      told = subst IsTrue (sym c.in-Ok.ensures.tells) v.told;
      steady = (c.in-Ok.ensures.steady v.told v.steady).1;
      so_far = gathers _ _ _ c.in-Ok.piece _ _ _ _ _ v.so_far (c.in-Ok.ensures.left v.told).0 c.len-count.ensures.length c.len.ensures.length c.number.ensures.bits c.number.ensures.small (omega (arith, few, c.requires.few));
      few = few;
      lent = c.in-Ok.ensures.lent ∙ v.lent;
    }
