-- What every sender keeps.
use Rattle.std.specs.Prelude.{ℕ, ◌*◌, ◌≤◌, ◌<◌, List, length}
use Rattle.std.specs.List.{AllByRecursion}
use Rattle.tap_block.specs.Chars.{IsChar}
use Rattle.tap_block.specs.Reading.{IsBody}

-- a content of one block or more, of which the current one is one, and at most two refusals of it
pub record IsSound (content : List ℕ) (acks naks : ℕ) : Type 0 where
  pub chars : AllByRecursion IsChar content
  pub no_block_inside : IsBody content
  pub place : 250 * acks < length content
  pub tries : naks ≤ 2
