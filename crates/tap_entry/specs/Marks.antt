-- The marks in what is heard: docs/profile.md, "marks".
use Rattle.tap_block.specs.Reading.{without_lf}
use Rattle.std.specs.Prelude.{◌≡◌, ℕ, ◌-◌, ◌==◌, Bool, if◌then◌else◌, nat_eq, List, [], ◌∷◌, ◌++◌, length, take, drop, codes, Option, Some, None, ◌⊎◌}
use Rattle.std.specs.List.{AllByRecursion, filter_map, flat_map}
use lib.Pointwise.{pointwise}
use Rattle.entry_line.specs.Chars.{cr}
use Rattle.tap_block.specs.Chars.{eot, esc, characters}
use Rattle.tap_entry.specs.declared.hearing.Mark.{Mark}
use Rattle.tap_entry.specs.declared.hearing.Mark.TheVariants.{Id, Ack, Nak, Rs, End, Go}

-- acknowledge
abbrev pub ack : ℕ
ack = 6

-- negative acknowledge
abbrev pub nak : ℕ
nak = 21

-- record separator
abbrev pub rs : ℕ
rs = 30

-- `ID=`
abbrev pub prompt : List ℕ
prompt = codes "ID="

-- the characters end in CR or in `ID=`
abbrev pub Ends : List ℕ → Type 0
Ends x = (l : List ℕ) × ((x ≡ l ++ cr ∷ []) ⊎ (x ≡ l ++ prompt))

-- no front of them ends so
abbrev pub IsOpen : List ℕ → Type 0
IsOpen x = (front rest : List ℕ) → x ≡ front ++ rest → Ends front → ⊥

-- no front of the list but the whole ends so
abbrev pub IsShortest : List ℕ → Type 0
IsShortest p = (front rest : List ℕ) → p ≡ front ++ rest → Ends front → rest ≡ []

-- a piece is the shortest list that ends so
abbrev pub IsPiece : List ℕ → Type 0
IsPiece p = Ends p × IsShortest p

-- The characters are these pieces one after another, and this rest.
pub record Cuts (pieces : List (List ℕ)) (rest x : List ℕ) : Type 0 where
  pub form : x ≡ flat_map (λ p. p) pieces ++ rest
  pub each : AllByRecursion IsPiece pieces
  pub is_open : IsOpen rest

-- two texts are the same
abbrev pub same : List ℕ → List ℕ → Bool
same x y = pointwise nat_eq x y

-- the mark of a piece: Id where it ends in `ID=`, and the others where they are alone before the CR
abbrev pub mark_of : List ℕ → Option Mark
mark_of p =
    if same (drop (length p - 3) p) prompt then Some Id
    else if same p (ack ∷ cr ∷ []) then Some Ack
    else if same p (nak ∷ cr ∷ []) then Some Nak
    else if same p (rs ∷ cr ∷ []) then Some Rs
    else if same p (esc ∷ eot ∷ cr ∷ []) then Some End
    else if same p (esc ∷ codes "[p" ++ cr ∷ []) then Some Go
    else None

-- These are the marks of the characters.
pub record AreMarks (x : List ℕ) (marks : List Mark) : Type 0 where
  pub pieces : List (List ℕ)
  pub rest : List ℕ
  pub cuts : Cuts pieces rest (without_lf x)
  pub marks_are : marks ≡ filter_map mark_of pieces

-- The marks of the bytes heard on a connection: those of their first 999,999 characters.
abbrev pub AreHeard : List ℕ → List Mark → Type 0
AreHeard bytes marks = AreMarks (take 999999 (characters bytes)) marks
