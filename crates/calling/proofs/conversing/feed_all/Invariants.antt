use Rattle.std.proofs.Common.{ℕ, List, drop}
use Rattle.wires.specs.Line.{Line}
use Rattle.calling.specs.Conversations.{CallUnderWay}
use Rattle.calling.proofs.conversing.feed_all.Given as goal

-- the bytes behind the turns so far are still to be fed
abbrev pub invariant-loop-byte : goal.invariant-loop-byte
invariant-loop-byte g l = (first : Line) (heard : List ℕ) → CallUnderWay l.pages first (g.W.Wire.state l.fn.wire) l.fn.stage l.fn.left l.fn.done.items heard l.bytes
    → CallUnderWay l.pages first (g.W.Wire.state l.wire) l.now l.left l.done.items heard (drop l.byte-index l.bytes)
