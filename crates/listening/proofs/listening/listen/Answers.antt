use Rattle.std.proofs.Common.{◌∙◌, refl, arith}
use Rattle.listening.proofs.Listens.{failed_one, failed_piece, heard_no_more, heard_unprinted, listening_begins, listening_goes_on, prints_as}
use Rattle.listening.proofs.listening.listen.Goals as goal

pub loop-to_come-init : goal.loop-to_come-init
loop-to_come-init g c = record {
  same = refl;
  so_far = (listening_begins (g.P.Listener.printed c.args.listener.now) (g.B.BitSource.state c.args.bits.now) (g.O.Sink.state c.args.out.now) c.requires.silent, c.requires.none);
}

pub returns-in-Err : goal.returns-in-Err
returns-in-Err g c = heard_no_more _ _ _ _ _ _ c.loop-to_come.to_come c.requires.grows c.loop-to_come.invariant.so_far.0 (failed_piece _ _ _ c.in-Err.field-0 c.in-Err.ensures)

pub returns-in-Err-bit : goal.returns-in-Err-bit
returns-in-Err-bit g c = heard_no_more _ _ _ _ _ _ c.loop-to_come.to_come c.requires.grows c.loop-to_come.invariant.so_far.0 (failed_one _ _ c.in-Err-bit.field-0 c.in-Err-bit.ensures)

pub returns-in-Err-hear_all : goal.returns-in-Err-hear_all
returns-in-Err-hear_all g c =
    let h = c.loop-to_come.invariant.so_far in
    heard_unprinted _ _ _ _ _ _ _ c.loop-to_come.to_come _ c.in-Ok.piece _ c.requires.grows h.0 c.in-Ok.ensures (omega (arith, c.in-Ok.ensures.few))
    (prints_as _ _ h.0.bits c.in-Ok.piece _ _ _ c.loop-to_come.invariant.same (c.in-Err-hear_all.ensures.prints h.0.bits (omega (arith, h.0.many, c.in-Ok.ensures.few)) h.1))

pub loop-to_come-preserved : goal.loop-to_come-preserved
loop-to_come-preserved g c =
    let h = c.loop-to_come.invariant.so_far in
    record {
      same = c.in_default.ensures.same ∙ c.loop-to_come.invariant.same;
      so_far = (
        listening_goes_on _ _ _ _ _ _ _ c.loop-to_come.to_come _ _ c.in-Ok.piece _ h.0 c.in-Ok.ensures (omega (arith, c.len-to_come.ensures.length, c.in-Ok.ensures.few))
            (prints_as _ _ h.0.bits c.in-Ok.piece _ _ _ c.loop-to_come.invariant.same (c.in_default.ensures.prints h.0.bits (omega (arith, h.0.many, c.in-Ok.ensures.few)) h.1)),
        c.in_default.ensures.fed h.0.bits (omega (arith, h.0.many, c.in-Ok.ensures.few)) h.1,
      );
    }
