use Rattle.std.proofs.Common.{◌≡◌, ◌≤◌, ℕ}
use Rattle.std.specs.Int.{bit_at}
use Rattle.receiver.specs.Places.{HasWrongBit}
use Rattle.receiver.proofs.places.wrong_bits.Given as goal

-- the masks of the bits so far: those from `place` on
abbrev pub invariant-loop-place : goal.invariant-loop-place
invariant-loop-place l = record {
  first : l.first ≤ l.place;
  end : l.place ≤ l.end;
  wrong : (n : ℕ) → bit_at l.wrong n ≡ 1 → HasWrongBit l.window n l.place l.end;
}

abbrev pub decreases-loop-place : goal.decreases-loop-place
decreases-loop-place l = l.place
