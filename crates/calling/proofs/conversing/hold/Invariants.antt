use Rattle.std.proofs.Common.{ℕ, List, [], ◌≤◌, length}
use Rattle.wires.specs.Line.{Line}
use Rattle.calling.specs.Conversations.{CallUnderWay}
use Rattle.calling.proofs.conversing.hold.Given as goal

-- all that was heard is fed, at least one byte in each turn
abbrev pub invariant-loop : goal.invariant-loop
invariant-loop g l = (first : Line) → CallUnderWay l.pages first (g.W.Wire.state l.fn.wire) l.fn.stage 999999 l.fn.done.items [] []
    → (heard : List ℕ) × CallUnderWay l.pages first (g.W.Wire.state l.wire) l.now l.left l.done.items heard [] × (l.counter ≤ length heard)
