-- What happened on an open connection.
use Rattle.std.specs.Prelude.{◌≡◌, ◌≢◌, ℕ, ◌+◌, ◌≤◌, List, ◌++◌, length, IsTrue}
use Rattle.wires.specs.Held.{Connection}
use Rattle.wires.specs.Line.{Line, last}

-- the open connection, or the one that was opened last
abbrev pub here : Line → Connection
here l = l.connection (last l)

-- on a connection these bytes were heard and these were said, with these turns
pub record Grew (old new : Connection) (heard said : List ℕ) (turns : List (ℕ × ℕ)) : Type 0 where
  pub rest : old.rest ≡ heard ++ new.rest
  pub heard_is : new.heard ≡ old.heard + length heard
  pub said_is : new.said ≡ old.said ++ said
  pub room : new.room + length said ≡ old.room
  pub turns_are : new.turns ≡ old.turns ++ turns

-- Nothing changed but the open connection, the counts of hear, say and hang, and which connection is open.
pub record Talked (old new : Line) (heard said : List ℕ) (turns : List (ℕ × ℕ)) : Type 0 where
  pub tells : new.tells ≡ old.tells
  pub count : new.count ≡ old.count
  pub lent : new.lent ≡ old.lent
  pub opened : new.opened ≡ old.opened
  pub asked : new.asked ≡ old.asked
  pub grew : IsTrue old.tells → IsTrue old.is_open → Grew (here old) (new.connection (last old)) heard said turns
  pub others : (k : ℕ) → (IsTrue old.is_open → k ≢ last old) → new.connection k ≡ old.connection k
  pub gate : new.gate ≡ old.gate

-- No hear and no say failed, and a steady wire is steady where what was said fits.
pub record Calm (old new : Line) (said : List ℕ) : Type 0 where
  pub hear : new.hear ≡ old.hear
  pub say : new.say ≡ old.say
  pub steady : IsTrue old.tells → IsTrue old.is_open → IsTrue old.steady → length said ≤ (here old).room → IsTrue new.steady
