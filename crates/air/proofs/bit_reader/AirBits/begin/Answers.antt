use Rattle.std.proofs.Common.{sym, ◌∙◌}
use Rattle.air.proofs.Bits.{bits-begun, bits-none, no_bit}
use Rattle.air.proofs.Taking.{Keeps-same}
use Rattle.air.proofs.bit_reader.AirBits.begin.Goals as goal

pub returns-in_default-clause-same : goal.returns-in_default-clause-same
returns-in_default-clause-same g c =
    let old = c.args.self.now in
    let new = c.next.new.self in
    bits-none new.pending new.word new.order new.pool.now (c.in_default.ensures.pending ∙ c.if-self-ne0.false) c.in_default.ensures.gives.1
    ∙ sym (bits-none old.pending old.word old.order old.pool.now c.if-self-ne0.false c.in_default.ensures.gives.0)

pub returns-in_default-clause-ended : goal.returns-in_default-clause-ended
returns-in_default-clause-ended g c =
    let old = c.args.self.now in
    λ none. bits-none old.pending old.word old.order old.pool.now c.if-self-ne0.false c.in_default.ensures.gives.0

pub returns-clause-same : goal.returns-clause-same
returns-clause-same g c =
    let old = c.args.self.now in
    let new = c.next.new.self in
    bits-begun old.pending old.word old.order new.order old.pool.now new.pool.now c.in-Some.word c.if-self-ne0.false c.in-Some.ensures.gives

pub invariant_of-self-clause-empties : goal.invariant_of-self-clause-empties
invariant_of-self-clause-empties g c = no_bit _ _ _ _ c.next.new.self.follows

pub returns-then-self-ne0-clause-keeps : goal.returns-then-self-ne0-clause-keeps
returns-then-self-ne0-clause-keeps g c = Keeps-same _
