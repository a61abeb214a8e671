use Rattle.std.proofs.Common.{arith, ◌∙◌, refl}
use Rattle.air.proofs.Bits.{bits-bit, bits-none, bits-word, no_bit, takes_bit, takes_none}
use Rattle.air.proofs.Taking.{Keeps-same}
use Rattle.air.proofs.bit_reader.AirBitsBitSource.bit.Goals as goal

pub returns-in_default : goal.returns-in_default
returns-in_default g c =
    let old = c.args.self.now in
    let new = c.next.new.self in
    takes_none old.pending old.word new.pending new.word old.order new.order old.pool.now new.pool.now _ _ _ _ c.in_default.ensures.pool_lent
    c.in_default.ensures.steps_lent c.in_default.ensures.keeps (bits-none old.pending old.word old.order old.pool.now c.if-self-eq0.true c.in_default.ensures.gives.0)
    (bits-none new.pending new.word new.order new.pool.now (c.in_default.ensures.pending ∙ c.if-self-eq0.true) c.in_default.ensures.gives.1)

pub returns-then-self-eq0 : goal.returns-then-self-eq0
returns-then-self-eq0 g c =
    let old = c.args.self.now in
    let new = c.next.new.self in
    takes_bit old.pending old.word 31 c.in-Some.word old.order new.order old.pool.now new.pool.now _ _ _ _ c.in-Some.ensures.pool_lent
    c.in-Some.ensures.steps_lent c.in-Some.ensures.keeps _
    (bits-word old.pending old.word old.order new.order old.pool.now new.pool.now c.in-Some.word c.if-self-eq0.true c.in-Some.ensures.gives)

pub overflow_shr-result-2 : goal.overflow_shr-result-2
overflow_shr-result-2 g c = let l = c.args.self.now.within in let z = c.if-self-eq0.false in omega (arith, l, z)

pub returns : goal.returns
returns g c =
    let old = c.args.self.now in
    takes_bit old.pending old.word _ old.word old.order old.order old.pool.now old.pool.now _ _ _ _ refl refl (Keeps-same old.pool.now) _
    (bits-bit old.pending old.word old.order old.pool.now c.if-self-eq0.false)

pub invariant_of-self-clause-empties : goal.invariant_of-self-clause-empties
invariant_of-self-clause-empties g c = no_bit _ _ _ _ c.next.new.self.follows

pub invariant_of-self-2-clause-empties : goal.invariant_of-self-2-clause-empties
invariant_of-self-2-clause-empties g c = no_bit _ _ _ _ c.args.self.now.follows
