-- What sending a page does.
use Rattle.std.specs.Prelude.{Bool, List, [], ◌∷◌, ℕ, Result, Ok, Err}
use Rattle.air.specs.Air.{IsAir}
use Rattle.page_text.specs.Page.{Page}
use Rattle.wires.specs.Written.{Written}
use Rattle.endings.specs.Wrote.{as_bits, Wrote, WroteFront}

-- the bits were written whole, or after Failed a front of them
abbrev pub SendsAll : {T E : Type 0} → Written ℕ → Written ℕ → List Bool → Result T E → Type 0
SendsAll old new bits (Ok _) = Wrote (as_bits old) (as_bits new) bits
SendsAll old new bits (Err _) = WroteFront (as_bits old) (as_bits new) bits

-- the bits of the transmission of one page were written, or after Failed a front of them
pub record SendsPage {T E : Type 0} (page : Page) (old new : Written ℕ) (result : Result T E) : Type 0 where
  pub bits : List Bool
  pub air : IsAir (page ∷ []) bits
  pub sends : SendsAll old new bits result
