-- What `one` does, by its status.
use Rattle.std.specs.Prelude.{◌≡◌, ℕ, ◌≤◌, length, Bool, true, false, List, [], ◌∷◌, IsTrue}
use Rattle.air.specs.Air.{IsAir}
use Rattle.tap_block.specs.Chars.{characters}
use Rattle.wires.specs.Causes.{Rose}
use Rattle.wires.specs.Left.{Left, Took}
use Rattle.wires.specs.Written.{Written}
use Rattle.endings.specs.declared.statuses.Status.{Status}
use Rattle.endings.specs.declared.statuses.Status.TheVariants.{BadSum, BadText, Done, InputFault, Memory, NotBlock, OutFault}
use Rattle.one_block.specs.AlphaPage.{alpha_page}
use Rattle.one_block.specs.LoneBlock.{HasText, IsLoneBlock, IsMarkedBlock}
use Rattle.endings.specs.Wrote.{as_bits, AppendsBytes, Wrote, WroteFront}

-- what the input and the output of a command tell
pub record Streams : Type 0 where
  pub input : Left ℕ
  pub out : Written ℕ

-- how many bytes of the input are read at most: one more than the longest block has
abbrev pub most_read : ℕ
most_read = 257

-- What a run read of its input. No read failed.
pub record ReadInput (old new : Left ℕ) : Type 0 where
  pub taken : List ℕ
  pub took : Took old new taken
  pub few : length taken ≤ most_read

-- The input was read whole, and it is one block with this body. The mark says whether its trailer is right.
pub record ReadBlock (old new : Left ℕ) (body : List ℕ) (right : Bool) : Type 0 where
  pub input : ReadInput old new
  pub whole : IsTrue old.tells → new.left ≡ []
  pub block : IsTrue old.tells → IsMarkedBlock (characters old.left) body right

-- The input was read as far as it takes to see that it isn't one block.
pub record ReadNoBlock (old new : Left ℕ) : Type 0 where
  pub input : ReadInput old new
  pub no_block : IsTrue old.tells → (body trailer : List ℕ) → IsLoneBlock (characters old.left) body trailer → ⊥

-- The input is one block with a wrong trailer.
pub record ReadBadSum (old new : Left ℕ) : Type 0 where
  pub body : List ℕ
  pub read : ReadBlock old new body false

-- The input is one block with a right trailer, and its content has no text.
pub record ReadBadText (old new : Left ℕ) : Type 0 where
  pub body : List ℕ
  pub read : ReadBlock old new body true
  pub no_text : (text : List ℕ) → HasText body text → ⊥

-- A read failed, and a fault of the input was counted, which no steady input has.
pub record ReadFailed (old new : Left ℕ) : Type 0 where
  pub tells : new.tells ≡ old.tells
  pub unsteady : IsTrue old.tells → IsTrue old.steady → ⊥
  pub faults : Rose old.faults new.faults
  pub lent : new.lent ≡ old.lent

-- The input is one block with a right trailer; this is the text of its content, and these are the bits of the transmission of its
-- page.
pub record PageSent (capcode : ℕ) (old new : Left ℕ) : Type 0 where
  pub body : List ℕ
  pub read : ReadBlock old new body true
  pub text : List ℕ
  pub has_text : HasText body text
  pub bits : List Bool
  pub air : IsAir (alpha_page capcode text ∷ []) bits

-- `one`, by its status. Done: the bits of the transmission of the page were written, as bytes. OutFault: a write failed after a front of
-- them.
-- NotBlock: the input isn't one block. BadSum: its trailer is wrong. BadText: its content has no text. InputFault: a read failed.
-- Memory: there was none, and nothing was read or written. No other status is answered.
abbrev pub OneRow : ℕ → Streams → Streams → Status → Type 0
OneRow capcode old new Done = (sent : PageSent capcode old.input new.input) × Wrote (as_bits old.out) (as_bits new.out) sent.bits × AppendsBytes old.out new.out
OneRow capcode old new OutFault = (sent : PageSent capcode old.input new.input) × WroteFront (as_bits old.out) (as_bits new.out) sent.bits × AppendsBytes old.out new.out
OneRow capcode old new NotBlock = ReadNoBlock old.input new.input × (new.out ≡ old.out)
OneRow capcode old new BadSum = ReadBadSum old.input new.input × (new.out ≡ old.out)
OneRow capcode old new BadText = ReadBadText old.input new.input × (new.out ≡ old.out)
OneRow capcode old new InputFault = ReadFailed old.input new.input × (new.out ≡ old.out)
OneRow capcode old new Memory = new ≡ old
OneRow capcode old new other = ⊥
