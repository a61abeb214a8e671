-- The codeword within two bits of a word. The law `fixes` ties `fix_of`, which computes it, to `IsFix`.
use Rattle.std.specs.Prelude.{◌≡◌, ℕ, ◌/◌, ◌^◌, ◌<◌, ◌≤◌, ◌↔◌, Bool, true, false, nat_le, bit_xor, slice_index, Option, Some, None}
use Rattle.bch31.specs.declared.patterns.TheConstants.{PATTERNS}
use Rattle.bch31.specs.Codeword.{IsCodeword}
use Rattle.bch31.specs.Distance.{distance_of}
use Rattle.bch31.specs.Division.{remainder}
use Rattle.bch31.specs.Word.{with_parity}

-- v is a codeword and differs from w in at most two bits
pub record IsFix (w v : ℕ) : Type 0 where
  pub codeword : IsCodeword v
  pub near : distance_of w v ≤ 2

-- no codeword differs from w in at most two bits
abbrev pub HasNoFix : ℕ → Type 0
HasNoFix w = (v : ℕ) → IsFix w v → ⊥

-- bits 1 to 31 of the word without the pattern of its remainder
unfoldable pub repaired : ℕ → ℕ
repaired w = bit_xor (w / 2) (slice_index PATTERNS (remainder 31 (w / 2)))

-- a number, if the test holds
abbrev pub some_if : Bool → ℕ → Option ℕ
some_if true v = Some v
some_if false v = None

-- the codeword within two bits of the word, or none
unfoldable pub fix_of : ℕ → Option ℕ
fix_of w = some_if (nat_le (distance_of w (with_parity (repaired w))) 2) (with_parity (repaired w))

-- `fix_of` gives exactly the codeword within two bits
abbrev pub FixOfIsFix : Type 0
FixOfIsFix = (w v : ℕ) → w < 2 ^ 32 → (fix_of w ≡ Some v) ↔ IsFix w v
