use Rattle.std.proofs.Common.{◌≡◌, ℕ, [], ◌++◌}
use Rattle.tap_block.specs.Chars.{characters}
use Rattle.load.specs.Draws.{draw, generator_at}
use Rattle.load.specs.Feeding.{IsFed}
use Rattle.load.specs.Generated.{drawn_blocks, logging_on, page_begins}
use Rattle.load.proofs.sessions.feed_session.Given as goal

-- the blocks so far were drawn and fed
abbrev pub invariant-loop : goal.invariant-loop
invariant-loop l = record {
  further : (seed : ℕ) → l.fn.draws.generator ≡ generator_at seed 0 → l.draws.generator ≡ generator_at seed (page_begins (draw seed) l.counter);
  fed : (seed spare : ℕ) → l.fn.draws.generator ≡ generator_at seed 0 → IsFed l.settings spare l.fn.terminal l.fn.pool []
      → IsFed l.settings spare l.terminal l.pool (characters (logging_on ++ drawn_blocks (draw seed) l.counter));
}
