-- Transmissions one after another, and as they are heard with few wrong bits.
use Rattle.std.specs.Prelude.{◌≡◌, ℕ, ◌+◌, ◌*◌, ◌≤◌, Bool, List, [], ◌∷◌, ◌++◌, length, take, drop}
use Rattle.bits.specs.Bits.{dist}
use Rattle.page_text.specs.Page.{Page}
use Rattle.air.specs.Air.{IsAir}

-- the transmissions of accepted lists, one after another
unfoldable pub IsAirs : List (List Page) → List Bool → Type 0
IsAirs [] bits = bits ≡ []
IsAirs (accepted ∷ lists) bits = (air : List Bool) × (rest : List Bool) × IsAir accepted air × IsAirs lists rest × (bits ≡ air ++ rest)

-- how many bits a preamble has
abbrev pub preamble_length : ℕ
preamble_length = 576

-- the words of 32 bits after the preamble, counted from 0
abbrev pub word_behind : ℕ → List Bool → List Bool
word_behind k bits = take 32 (drop (preamble_length + 32 * k) bits)

-- What is heard has the length of the transmission, equals it in every bit of the preamble, and differs from it in at most two bits
-- of each 32-bit word after the preamble, sync words among them.
pub record IsNearAir (air heard : List Bool) : Type 0 where
  pub whole : length heard ≡ length air
  pub preamble : take preamble_length heard ≡ take preamble_length air
  pub words : (k : ℕ) → dist (word_behind k heard) (word_behind k air) ≤ 2

-- What is heard is near the transmissions of the lists: it is a part for each list, one after another, each near its transmission.
unfoldable pub Near : List (List Page) → List Bool → Type 0
Near [] heard = heard ≡ []
Near (accepted ∷ lists) heard =
    (air : List Bool) × (first : List Bool) × (rest : List Bool) × IsAir accepted air × IsNearAir air first × Near lists rest × (heard ≡ first ++ rest)
