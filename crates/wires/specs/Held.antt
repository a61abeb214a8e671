-- What an object of the outside holds of others for as long as it lives. No call changes it.
use Rattle.std.specs.Prelude.{ℕ, Bool, List}
use Rattle.std.specs.Borrow.{GName}

-- a connection: how many bytes were heard, the bytes still to be heard, the bytes said, its turns, and how many more bytes can be said.
-- A turn is, for each read that gave a byte, how many bytes had been heard and how many said before it
pub record Connection : Type 0 where
  pub heard : ℕ
  pub rest : List ℕ
  pub said : List ℕ
  pub turns : List (ℕ × ℕ)
  pub room : ℕ

-- files of a shelf as functions of their names, the room that a fresh file gets, and whether a further file may be added
pub record OtherFiles : Type 0 where
  pub there : List ℕ → Bool
  pub file : List ℕ → List ℕ
  pub fresh : List ℕ → Bool
  pub room : List ℕ → ℕ
  pub fresh_room : ℕ
  pub further : Bool

-- a wire but for what is said on the open connection, and the count of say faults
pub record OtherLine : Type 0 where
  pub count : ℕ
  pub connection : ℕ → Connection
  pub opened : ℕ
  pub is_open : Bool
  pub asked : List ℕ
  pub gate : ℕ
  pub hear : ℕ
  pub hang : ℕ

-- one thing that an object holds
pub data Held : Type 0 where
  -- another object, by the name of the reference to it
  Lent : GName → Held
  -- a text that it reads
  Text : List ℕ → Held
  -- what stays of a shelf below it
  OfShelf : OtherFiles → Held
  -- what stays of a wire below it
  OfWire : OtherLine → Held
  -- whether all that was written to a sink below is bytes
  Bytes : Bool → Held
  -- so many of the things that follow are of the first part, and the others of the second
  Parts : ℕ → Held
  -- whether something follows after all that it hands out
  Follows : Bool → Held
