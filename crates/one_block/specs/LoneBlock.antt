-- The block that `one` reads.
use Rattle.std.specs.Prelude.{◌≡◌, ℕ, ◌≤◌, Bool, List, [], ◌∷◌, length, None}
use Rattle.codeword.specs.declared.functions.Function.TheVariants.{Alpha}
use Rattle.page_text.specs.Fits.{Fits}
use Rattle.tap_block.specs.declared.ends.End.TheVariants.{Etx}
use Rattle.tap_block.specs.Fields.{HasFields}
use Rattle.tap_block.specs.Reading.{AfterLogon, block, is_right, Reads}

-- The characters are one block, whose end is ETX and whose body has at most 250 characters.
pub record IsLoneBlock (x body trailer : List ℕ) : Type 0 where
  pub reads : Reads None AfterLogon (block body Etx trailer ∷ []) [] x
  pub short : length body ≤ 250

-- the same, and whether the trailer is right
pub record IsMarkedBlock (x body : List ℕ) (right : Bool) : Type 0 where
  pub trailer : List ℕ
  pub lone : IsLoneBlock x body trailer
  pub mark : right ≡ is_right body Etx trailer

-- The content has two fields, each with a value, and the second value fits an alphanumeric page: it is the text.
pub record HasText (content text : List ℕ) : Type 0 where
  pub id : List ℕ
  pub fields : HasFields content id text
  pub fits : Fits Alpha text
