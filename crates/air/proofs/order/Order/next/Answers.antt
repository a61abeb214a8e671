use Rattle.std.proofs.Common.{arith}
use Rattle.air.proofs.Orders.{gives_filler, gives_none, gives_slot, gives_sync}
use Rattle.air.proofs.order.Order.next.Goals as goal

pub returns-then-self-gt0-clause-gives : goal.returns-then-self-gt0-clause-gives
returns-then-self-gt0-clause-gives g c = let t = c.if-self-gt0.true in gives_filler _ _ _ _ _ c.requires (omega (arith, t))

pub returns-then-self-eq0-clause-gives : goal.returns-then-self-eq0-clause-gives
returns-then-self-eq0-clause-gives g c =
    let t = c.if-self-gt0.false in
    gives_sync _ _ _ _ c.requires (omega (arith, t)) c.if-self-eq0.true (λ e. absurd (let x = c.if-is_done.ensures.end.1 e in cc))

pub returns-clause-gives : goal.returns-clause-gives
returns-clause-gives g c =
    let t = c.if-self-gt0.false in
    let u = c.if-self-eq0.false in
    gives_slot _ _ _ _ c.slot.result _ _ _ _ (omega (arith, t)) (omega (arith, u)) c.slot.ensures.gives c.word.ensures

pub returns-then-is_done-clause-gives : goal.returns-then-is_done-clause-gives
returns-then-is_done-clause-gives g c =
    let t = c.if-self-gt0.false in
    gives_none _ _ _ _ c.requires (omega (arith, t)) (c.is_done.ensures.end.0 c.if-is_done.true) (c.is_done.ensures.empty c.if-is_done.true)
