-- What a run wrote.
use Rattle.std.specs.Prelude.{◌≡◌, ℕ, ◌*◌, ◌+◌, ◌≤◌, Bool, List, ◌∷◌, ◌++◌, length, IsTrue}
use Rattle.bits.specs.Bits.{bytes_bits}
use Rattle.wires.specs.Causes.{Rose}
use Rattle.wires.specs.Held.{Bytes}
use Rattle.wires.specs.Stacked.{are_bytes, holds_bytes}
use Rattle.wires.specs.Written.{Written, AppendsFront}

-- a sink of bytes as a sink of their bits. Only bytes are written to it
abbrev pub as_bits : Written ℕ → Written Bool
as_bits sink = record {
  tells = sink.tells;
  held = bytes_bits sink.held;
  room = 8 * sink.room;
  steady = sink.steady;
  faults = sink.faults;
  lent = Bytes (holds_bytes sink) ∷ sink.lent;
}

-- the piece was written, and no fault was counted
pub record Wrote {A : Type 0} (old new : Written A) (piece : List A) : Type 0 where
  pub tells : new.tells ≡ old.tells
  pub held : IsTrue old.tells → new.held ≡ old.held ++ piece
  pub room : IsTrue old.tells → new.room + length new.held ≡ old.room + length old.held
  pub steady : IsTrue old.tells → IsTrue old.steady → length piece ≤ old.room → IsTrue new.steady
  pub faults : new.faults ≡ old.faults
  pub lent : new.lent ≡ old.lent

-- a front of the piece was written, and a fault was counted, which no steady sink with room for the piece has
pub record WroteFront {A : Type 0} (old new : Written A) (piece : List A) : Type 0 where
  pub tells : new.tells ≡ old.tells
  pub held : IsTrue old.tells → AppendsFront old.held new.held piece
  pub room : IsTrue old.tells → new.room + length new.held ≡ old.room + length old.held
  pub unfit : IsTrue old.tells → IsTrue old.steady → length piece ≤ old.room → ⊥
  pub faults : Rose old.faults new.faults
  pub lent : new.lent ≡ old.lent

-- Where a sink holds bytes, what was appended to it are bytes.
abbrev pub AppendsBytes : Written ℕ → Written ℕ → Type 0
AppendsBytes old new = IsTrue old.tells → IsTrue (are_bytes old.held) → (piece : List ℕ) × IsTrue (are_bytes piece) × (new.held ≡ old.held ++ piece)

-- The sink is steady, and has room for this.
pub record FitFor (out : Written ℕ) (piece : List ℕ) : Type 0 where
  pub tells : IsTrue out.tells
  pub steady : IsTrue out.steady
  pub room : length piece ≤ out.room

-- No fault was counted, and the sink is steady.
pub record StaysWell (old new : Written ℕ) : Type 0 where
  pub steady : IsTrue new.steady
  pub faults : new.faults ≡ old.faults
