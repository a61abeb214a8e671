-- What is sent of the pages of a trial.
use Rattle.std.specs.Prelude.{◌≡◌, Bool, List, ◌++◌}
use Rattle.air.specs.Air.{IsAir}
use Rattle.page_text.specs.Page.{Page}

-- how often a transmission is sent
pub data Times : Type 0 where
  once : Times
  twice : Times

-- the bits that are sent of accepted pages: their transmission, so often
abbrev pub IsSent : Times → List Page → List Bool → Type 0
IsSent once pages sent = IsAir pages sent
IsSent twice pages sent = (air : List Bool) × IsAir pages air × (sent ≡ air ++ air)
