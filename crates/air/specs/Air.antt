-- The words and the bits of a transmission.
use Rattle.codeword.specs.Words.{filler}
use Rattle.std.specs.Prelude.{◌≡◌, ℕ, zero, suc, ◌/◌, Bool, List, [], ◌∷◌, ◌++◌, length, take, drop, replicate}
use Rattle.bits.specs.Bits.{words_bits}
use Rattle.codeword.specs.declared.batches.TheConstants.{SLOTS}
use Rattle.codeword.specs.declared.words.TheConstants.{SYNC}
use Rattle.page_text.specs.Page.{Page}
use Rattle.scheduler.specs.Slots.{IsSchedule}

-- the preamble: 576 bits, which are 18 words
unfoldable pub preamble : List ℕ
preamble = replicate 18 filler

-- n batches: each is the sync word and its slots
unfoldable pub batches : ℕ → List ℕ → List ℕ
batches zero slots = []
batches (suc n) slots = SYNC ∷ (take SLOTS slots ++ batches n (drop SLOTS slots))

-- the words of a transmission of these slots
abbrev pub transmission : List ℕ → List ℕ
transmission slots = preamble ++ batches (length slots / SLOTS) slots

-- The bits of the transmission of accepted pages. No page gives no bits.
abbrev pub IsAir : List Page → List Bool → Type 0
IsAir [] bits = bits ≡ []
IsAir (page ∷ pages) bits = (slots : List ℕ) × IsSchedule (page ∷ pages) slots × (bits ≡ words_bits (transmission slots))
