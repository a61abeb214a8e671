-- What is heard of a transmission that is sent twice. docs/profile.md, "repeated transmission".
use Rattle.std.specs.Prelude.{ℕ, Bool, List, [], ◌∷◌, map, take, Option, Some, None, option_map, flat_map}
use Rattle.bch31.specs.Codeword.{front_of}
use Rattle.bch31.specs.Fix.{fix_of}
use Rattle.codeword.specs.declared.kinds.WordKind.{WordKind}
use Rattle.codeword.specs.Kinds.{kind_from}
use Rattle.receiver.specs.Stretches.{stretches}
use Rattle.receiver.specs.Slots.{stretch_slots}
use Rattle.receiver.specs.Heard.{HeardPage, pages_from}

-- how many slots of a first stretch are held for the second
unfoldable pub held_slots : ℕ
held_slots = 1800000

-- the first of two codewords that is there
abbrev pub first_there : Option ℕ → Option ℕ → Option ℕ
first_there (Some codeword) other = Some codeword
first_there None other = other

-- The slots of a twin stretch, from the words in the slots of its two stretches: as many as the second has. Each is the codeword
-- within two bits of the word of the first, if that has this slot and there is one, and else that of the second.
unfoldable pub twin : List ℕ → List ℕ → List (Option ℕ)
twin firsts [] = []
twin [] (second ∷ seconds) = fix_of second ∷ twin [] seconds
twin (first ∷ firsts) (second ∷ seconds) = first_there (fix_of first) (fix_of second) ∷ twin firsts seconds

-- The twin stretches: of the first and the second stretch, the third and the fourth, and so on. A stretch without a second gives none.
unfoldable pub twins : List (List ℕ) → List (List (Option ℕ))
twins [] = []
twins (first ∷ []) = []
twins (first ∷ second ∷ later) = twin (take held_slots (stretch_slots first)) (stretch_slots second) ∷ twins later

-- what a slot says that holds a codeword or none
abbrev pub says : Option ℕ → Option WordKind
says codeword = option_map (λ v. kind_from (front_of v)) codeword

-- the pages of a twin stretch
abbrev pub twin_pages : (ℕ → Bool) → List (Option ℕ) → List HeardPage
twin_pages listens slots = pages_from listens 0 (map says slots)

-- the pages of all twin stretches to the capcodes that are listened to
abbrev pub heard_twice : (ℕ → Bool) → List Bool → List HeardPage
heard_twice listens bits = flat_map (twin_pages listens) (twins (stretches bits))
