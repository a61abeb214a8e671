-- What is heard of transmissions with few wrong bits.
use Rattle.std.specs.Prelude.{◌≡◌, ℕ, Bool, true, List, [], ◌∷◌, ◌++◌, map, All}
use Rattle.codeword.specs.Capcodes.{IsUsable}
use Rattle.page_text.specs.Page.{Page, IsAcceptable}
use Rattle.air.specs.Near.{IsAirs, Near}
use Rattle.receiver.specs.Heard.{with_text, heard}
use Rattle.receiver.specs.Shown.{pages_in, pages_of_frame}

-- the pages of all lists, in order
abbrev pub joined : List (List Page) → List Page
joined [] = []
joined (accepted ∷ lists) = accepted ++ joined lists

-- the capcodes that are listened to are usable
abbrev pub AreUsable : (ℕ → Bool) → Type 0
AreUsable listens = (capcode : ℕ) → listens capcode ≡ true → IsUsable capcode

-- Where every preamble is heard as it was sent, and every word after it with at most two wrong bits, the pages heard of each set of
-- capcodes that are listened to are, in each frame, exactly the accepted pages of this set, in order, each with its text.
abbrev pub NearAir : Type 0
NearAir =
    (listens : ℕ → Bool) (lists : List (List Page)) (bits : List Bool)
    → AreUsable listens → All (All IsAcceptable) lists → Near lists bits
    → (set : ℕ → Bool) (f : ℕ) → ((capcode : ℕ) → set capcode ≡ true → listens capcode ≡ true)
    → pages_of_frame f (pages_in set (map with_text (heard listens bits))) ≡ pages_of_frame f (pages_in set (joined lists))

-- transmissions that are heard as they were sent are near
abbrev pub CleanAir : Type 0
CleanAir = (lists : List (List Page)) (bits : List Bool) → IsAirs lists bits → Near lists bits
