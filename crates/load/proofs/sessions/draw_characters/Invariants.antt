use Rattle.std.proofs.Common.{◌≡◌, ℕ, ◌+◌, ◌++◌}
use Rattle.arrayvec.specs.ArrayVec.{array_vec_len}
use Rattle.load.specs.Draws.{draw, generator_at}
use Rattle.load.specs.Generated.{drawn_characters}
use Rattle.std.specs.List.{AllByRecursion}
use Rattle.tap_block.specs.Chars.{IsChar}
use Rattle.load.proofs.sessions.draw_characters.Given as goal

abbrev pub invariant-loop : goal.invariant-loop
invariant-loop l = record {
  size : array_vec_len l.body ≡ array_vec_len l.initial.body + l.counter;
  ascii : AllByRecursion IsChar l.initial.body.items → AllByRecursion IsChar l.body.items;
  characters : (seed k : ℕ) → l.initial.draws.generator ≡ generator_at seed k → l.body.items ≡ l.initial.body.items ++ drawn_characters (draw seed) k l.first l.kinds l.counter;
  further : (seed k : ℕ) → l.initial.draws.generator ≡ generator_at seed k → l.draws.generator ≡ generator_at seed (k + l.counter);
}
