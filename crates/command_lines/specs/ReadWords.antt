-- A receiver's word that is being read, one part after another.
use Rattle.std.specs.Prelude.{◌≡◌, ℕ, ◌<◌, ◌==◌, false, List, [], ◌∷◌, ◌++◌, length}
use Rattle.std.specs.List.{list_any}
use Rattle.command_lines.specs.Commands.{IsCapcodeWord}

-- this part says a capcode that may stand behind these: there are fewer than four, and it is none of them
pub record IsNext (capcodes part : List ℕ) (capcode : ℕ) : Type 0 where
  pub word_is : IsCapcodeWord part capcode
  pub few : length capcodes < 4
  pub new : list_any (λ c. c == capcode) capcodes ≡ false

-- these are the same capcodes, and behind them the one that this part says
pub record GrowsBy (capcodes part more : List ℕ) : Type 0 where
  pub capcode : ℕ
  pub next : IsNext capcodes part capcode
  pub more_is : more ≡ capcodes ++ capcode ∷ []
