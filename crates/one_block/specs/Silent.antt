-- Characters of which one completes an item.
use Rattle.std.specs.Prelude.{◌≡◌, ◌≢◌, ℕ, List, [], ◌++◌, Option}
use Rattle.tap_block.specs.Brief.{ScannerState, ScannerStandsFor}
use Rattle.tap_block.specs.Reading.{AfterLogon, Entry}

-- a front of the characters has items
pub record BreaksSilence (password : Option (List ℕ)) (x : List ℕ) : Type 0 where
  pub front : List ℕ
  pub behind : List ℕ
  pub parts : x ≡ front ++ behind
  pub scanner : ScannerState
  pub same : scanner.password ≡ password
  pub items : List Entry
  pub stands : ScannerStandsFor AfterLogon scanner front items
  pub some : items ≢ []
