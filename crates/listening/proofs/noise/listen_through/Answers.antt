use Rattle.std.proofs.Common.{◌++◌, ◌+◌, ◌<◌, ◌^◌, ◌∙◌, ap, refl, subst, sym, arith, length, take, Bool, List}
use Rattle.wires.specs.Stacked.{noisy_bits}
use Rattle.wires.proofs.Pieces.{none_left}
use Rattle.listening.proofs.Listens.{prints_as}
use Rattle.listening.proofs.LeftBits.{leaves_bits, no_rest}
use Rattle.listening.proofs.NoisyHeard.{cut_left, few_now, first_long, flipped_long, prints_made, some_left, then_heard, through_all, through_begins, through_failed, through_goes_on, through_unprinted, with_left}
use Rattle.listening.proofs.noise.listen_through.Goals as goal

pub loop-piece-init : goal.loop-piece-init
loop-piece-init g c =
    let bits = (g.A.BitSource.state c.args.bits.now).left in
    let none = c.of-piece.ensures ∙ none_left 0 0 refl in
    record {
      same = refl;
      tells = c.requires.told;
      steady = c.requires.steady;
      lent = refl;
      so_far = (
        with_left _ _ bits (c.of-piece.result ++ bits) _ _ _ _ _ (sym (ap (λ (xs : List Bool). xs ++ bits) none))
            (through_begins (g.P.Listener.printed c.args.listener.now) bits (g.N.BitSource.state c.args.noise.now) (g.O.Sink.state c.args.out.now) c.requires.silent),
        c.requires.none,
      );
    }

pub returns-in-Err-clause-listens : goal.returns-in-Err-clause-listens
returns-in-Err-clause-listens g c =
    let more = some_left (c.loop-piece.piece ++ (g.A.BitSource.state c.loop-piece.bits).left) c.refill.new.piece (g.A.BitSource.state c.refill.new.bits).left
    c.refill.ensures.same (c.refill.ensures.some c.loop-piece-test.true) in
    through_failed _ _ _ _ _ _ _ _ _ _ c.in-Err.field-0 c.loop-piece.invariant.so_far.0 c.in-Err.ensures.gives more

pub returns-in-Err-hear_all-clause-listens : goal.returns-in-Err-hear_all-clause-listens
returns-in-Err-hear_all-clause-listens g c =
    let v = c.loop-piece.invariant.so_far in
    let piece = c.refill.new.piece in
    let rest = (g.A.BitSource.state c.refill.new.bits).left in
    let flips = c.in-Ok.flips in
    let left = c.flip_first-flipped.new.piece in
    let made = c.flip_first-flipped.result in
    let more = take (length flips) piece in
    let e = cut_left (c.loop-piece.piece ++ (g.A.BitSource.state c.loop-piece.bits).left) piece rest left (length flips) c.refill.ensures.same c.flip_first-flipped.ensures.left in
    let long = first_long piece flips c.len.result c.in-Ok.ensures.few c.len.ensures.length c.in-Ok.ensures.some in
    let h = with_left _ _ (c.loop-piece.piece ++ (g.A.BitSource.state c.loop-piece.bits).left) (more ++ (left ++ rest)) _ _ _ _ _ e v.0 in
    let few = few_now _ _ more (left ++ rest) _ _ _ _ _ h c.requires.few in
    let size = flipped_long made more flips c.flip_first-flipped.ensures.flipped in
    let heard = noisy_bits v.0.heard v.0.noise in
    let lt : length heard + length made < 2 ^ 32 = omega (arith, few, size) in
    let p = prints_as _ _ heard made _ _ _ c.loop-piece.invariant.same (c.in-Err-hear_all.ensures.prints heard lt v.1) in
    through_unprinted _ _ more (left ++ rest) _ _ _ _ _ _ _ _ flips _ h c.in-Ok.ensures.gives long.0 long.1 (prints_made _ heard made (noisy_bits more flips) _ _ _ c.flip_first-flipped.ensures.flipped p)

pub loop-piece-preserved : goal.loop-piece-preserved
loop-piece-preserved g c =
    let v = c.loop-piece.invariant.so_far in
    let piece = c.refill.new.piece in
    let rest = (g.A.BitSource.state c.refill.new.bits).left in
    let flips = c.in-Ok.flips in
    let left = c.flip_first-flipped.new.piece in
    let made = c.flip_first-flipped.result in
    let more = take (length flips) piece in
    let e = cut_left (c.loop-piece.piece ++ (g.A.BitSource.state c.loop-piece.bits).left) piece rest left (length flips) c.refill.ensures.same c.flip_first-flipped.ensures.left in
    let long = first_long piece flips c.len.result c.in-Ok.ensures.few c.len.ensures.length c.in-Ok.ensures.some in
    let h = with_left _ _ (c.loop-piece.piece ++ (g.A.BitSource.state c.loop-piece.bits).left) (more ++ (left ++ rest)) _ _ _ _ _ e v.0 in
    let few = few_now _ _ more (left ++ rest) _ _ _ _ _ h c.requires.few in
    let size = flipped_long made more flips c.flip_first-flipped.ensures.flipped in
    let heard = noisy_bits v.0.heard v.0.noise in
    let lt : length heard + length made < 2 ^ 32 = omega (arith, few, size) in
    let p = prints_as _ _ heard made _ _ _ c.loop-piece.invariant.same (c.in_default.ensures.prints heard lt v.1) in
    record {
      same = c.in_default.ensures.same ∙ c.loop-piece.invariant.same;
      tells = c.refill.ensures.told;
      steady = c.refill.ensures.steady;
      lent = c.refill.ensures.lent ∙ c.loop-piece.invariant.lent;
      so_far = (
        through_goes_on _ _ more (left ++ rest) _ _ _ _ _ _ _ _ flips _ h c.in-Ok.ensures.gives long.0 long.1 (prints_made _ heard made (noisy_bits more flips) _ _ _ c.flip_first-flipped.ensures.flipped p),
        subst (λ (bits : List Bool). g.P.Listener.fed c.hear_all.new.listener bits)
            (then_heard _ _ more (left ++ rest) _ _ _ _ _ _ _ flips made h c.in-Ok.ensures.gives c.flip_first-flipped.ensures.flipped)
            (c.in_default.ensures.fed heard lt v.1),
      );
    }

pub returns-clause-listens : goal.returns-clause-listens
returns-clause-listens g c = through_all _ _ _ _ _ _ _ _ (c.refill.ensures.end c.loop-piece-test.false) c.loop-piece.invariant.so_far.0

pub returns-in-Err-clause-leaves : goal.returns-in-Err-clause-leaves
returns-in-Err-clause-leaves g c =
    leaves_bits (g.A.BitSource.state c.args.bits.now) (g.A.BitSource.state c.loop-piece.bits) (g.A.BitSource.state c.refill.new.bits) c.loop-piece.invariant.so_far.0.heard c.loop-piece.piece c.refill.new.piece _
    c.loop-piece.invariant.so_far.0.bits_are c.refill.ensures.same c.loop-piece.invariant.lent c.refill.ensures.lent (λ e. cc)

pub returns-in-Err-hear_all-clause-leaves : goal.returns-in-Err-hear_all-clause-leaves
returns-in-Err-hear_all-clause-leaves g c =
    leaves_bits (g.A.BitSource.state c.args.bits.now) (g.A.BitSource.state c.loop-piece.bits) (g.A.BitSource.state c.refill.new.bits) c.loop-piece.invariant.so_far.0.heard c.loop-piece.piece c.refill.new.piece _
    c.loop-piece.invariant.so_far.0.bits_are c.refill.ensures.same c.loop-piece.invariant.lent c.refill.ensures.lent (λ e. cc)

pub returns-clause-leaves : goal.returns-clause-leaves
returns-clause-leaves g c =
    leaves_bits (g.A.BitSource.state c.args.bits.now) (g.A.BitSource.state c.loop-piece.bits) (g.A.BitSource.state c.refill.new.bits) c.loop-piece.invariant.so_far.0.heard c.loop-piece.piece c.refill.new.piece _
    c.loop-piece.invariant.so_far.0.bits_are c.refill.ensures.same c.loop-piece.invariant.lent c.refill.ensures.lent
    (λ e. no_rest c.refill.new.piece (g.A.BitSource.state c.refill.new.bits).left (c.refill.ensures.same ∙ c.refill.ensures.end c.loop-piece-test.false))
