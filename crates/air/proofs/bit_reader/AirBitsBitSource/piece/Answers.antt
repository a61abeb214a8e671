use Rattle.std.proofs.Common.{arith, ◌-◌}
use Rattle.air.specs.Left.{bits_to_come}
use Rattle.air.proofs.Bits.{bits-piece, no_bit, nothing-comes, takes_piece}
use Rattle.air.proofs.bit_reader.AirBitsBitSource.piece.Goals as goal

pub returns-then-not-begin : goal.returns-then-not-begin
returns-then-not-begin g c =
    let old = c.args.self.now in
    let new = c.begin.new.self in
    let e = nothing-comes c.of.result (bits_to_come old.pending old.word old.order old.pool.now) (bits_to_come new.pending new.word new.order new.pool.now) c.of.ensures c.begin.ensures.same
    (c.begin.ensures.ended c.if-not-begin.true) in
    takes_piece old.pending old.word new.pending new.word old.order new.order old.pool.now new.pool.now _ _ _ _ c.begin.ensures.pool_lent c.begin.ensures.steps_lent c.begin.ensures.keeps
    c.args.most c.of.result (omega (arith, e.0)) e.1 e.2

pub returns : goal.returns
returns g c =
    let old = c.args.self.now in
    let new = c.begin.new.self in
    let some = c.begin.ensures.begun c.if-not-begin.false in
    let m = c.requires in
    let e = bits-piece new.pending new.word c.min-count.result new.order new.pool.now c.of-2.result (bits_to_come old.pending old.word old.order old.pool.now)
    (omega (arith, c.min-count.ensures, some, m)) (omega (arith, c.min-count.ensures)) c.of-2.ensures c.begin.ensures.same in
    takes_piece old.pending old.word (new.pending - c.min-count.result) new.word old.order new.order old.pool.now new.pool.now _ _ _ _ c.begin.ensures.pool_lent c.begin.ensures.steps_lent c.begin.ensures.keeps
    c.args.most c.of-2.result (omega (arith, e.0, c.min-count.ensures)) e.1 e.2

pub invariant_of-self-clause-empties : goal.invariant_of-self-clause-empties
invariant_of-self-clause-empties g c = no_bit _ _ _ _ c.begin.new.self.follows
