-- The codewords: M.584-2, the BCH (31, 21) code with a bit of even parity.
use Rattle.std.specs.Prelude.{◌≡◌, ℕ, ◌*◌, ◌/◌, ◌%◌, ◌^◌, Bool, if◌then◌else◌, List, [], ◌∷◌, length, bit_xor, count_ones}

-- the generator x^10 + x^9 + x^8 + x^6 + x^5 + x^3 + 1
abbrev pub generator : ℕ
generator = 0x769

-- the xor of the chosen shifts of the generator. The first choice is that of the highest shift.
abbrev pub chosen_shifts : List Bool → ℕ
chosen_shifts [] = 0
chosen_shifts (b ∷ bs) = bit_xor (if b then generator * 2 ^ length bs else 0) (chosen_shifts bs)

-- Bits 1 to 31 are the xor of some of the 21 shifts of the generator that fit in 31 bits, and the number of ones
-- in all 32 bits is even.
pub record IsCodeword (w : ℕ) : Type 0 where
  pub shifts : List Bool
  pub shifts_len : length shifts ≡ 21
  pub multiple : w / 2 ≡ chosen_shifts shifts
  pub even : count_ones w % 2 ≡ 0

-- the first 21 bits of a word
abbrev pub front_of : ℕ → ℕ
front_of w = w / 2 ^ 11

-- the ten check bits of a word: bits 22 to 31
abbrev pub check_of : ℕ → ℕ
check_of w = w / 2 % 2 ^ 10
