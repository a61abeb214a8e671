use Rattle.std.proofs.Common.{ℕ, List, ◌++◌, take}
use Rattle.tap_block.specs.Chars.{characters}
use Rattle.load.specs.Feeding.{IsFed}
use Rattle.load.proofs.sessions.feed.Given as goal

-- the bytes so far were fed
abbrev pub invariant-loop-byte : goal.invariant-loop-byte
invariant-loop-byte l = (spare : ℕ) (x : List ℕ) → IsFed l.settings spare l.initial.terminal l.initial.pool x → IsFed l.settings spare l.terminal l.pool (x ++ characters (take l.byte-index l.bytes))
