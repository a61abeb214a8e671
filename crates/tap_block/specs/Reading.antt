-- How the characters of a session are read: pieces one after another, and a rest.
use Rattle.std.specs.Prelude.{◌≡◌, ◌≢◌, ℕ, ◌==◌, Bool, false, ◌&&◌, ◌||◌, not, if◌then◌else◌, nat_eq, List, [], ◌∷◌, ◌++◌, length, filter, Option, Some, None}
use Rattle.std.specs.List.{AllByRecursion, filter_map}
use lib.Pointwise.{pointwise}
use Rattle.tap_block.specs.declared.ends.End.{End}
use Rattle.entry_line.specs.Chars.{lf, cr}
use Rattle.tap_block.specs.Chars.{stx, etx, eot, etb, us, sum_of, written, end_char}

-- before the logon lines are read, and blocks after it
pub data Mode : Type 0 where
  BeforeLogon : Mode
  AfterLogon : Mode

-- A piece with its parts.
pub data InputPiece : Type 0 where
  -- a line and its CR
  line : List ℕ → InputPiece
  -- a character that is skipped
  skipped : ℕ → InputPiece
  -- an EOT that is skipped
  lone_eot : InputPiece
  -- EOT CR
  bye : InputPiece
  -- a body that a new block cuts off
  dropped : List ℕ → InputPiece
  -- a block: its body, its end, its trailer
  block : List ℕ → End → List ℕ → InputPiece

-- its characters
abbrev pub piece_text : InputPiece → List ℕ
piece_text (line l) = l ++ cr ∷ []
piece_text (skipped c) = c ∷ []
piece_text lone_eot = eot ∷ []
piece_text bye = eot ∷ cr ∷ []
piece_text (dropped b) = stx ∷ b
piece_text (block b e t) = (stx ∷ b) ++ end_char e ∷ t

-- a body has none of STX, ETX, ETB, US
abbrev pub IsBodyChar : ℕ → Type 0
IsBodyChar c = (c ≢ stx) × (c ≢ etx) × (c ≢ etb) × (c ≢ us)

-- a body is a list of these
abbrev pub IsBody : List ℕ → Type 0
IsBody b = AllByRecursion IsBodyChar b

-- a trailer is the shortest list that ends in CR or has four characters
abbrev pub IsTrailer : List ℕ → Type 0
IsTrailer [] = ⊥
IsTrailer (a ∷ []) = a ≡ cr
IsTrailer (a ∷ b ∷ []) = (a ≢ cr) × (b ≡ cr)
IsTrailer (a ∷ b ∷ c ∷ []) = (a ≢ cr) × (b ≢ cr) × (c ≡ cr)
IsTrailer (a ∷ b ∷ c ∷ d ∷ []) = (a ≢ cr) × (b ≢ cr) × (c ≢ cr)
IsTrailer (a ∷ b ∷ c ∷ d ∷ e ∷ t) = ⊥

-- the first character of the list is so
abbrev pub FirstIs : (ℕ → Type 0) → List ℕ → Type 0
FirstIs P [] = ⊥
FirstIs P (c ∷ x) = P c

-- The piece may stand here, where `next` follows it.
abbrev pub IsPieceBefore : Mode → InputPiece → List ℕ → Type 0
IsPieceBefore BeforeLogon (line l) next = AllByRecursion (λ c. c ≢ cr) l
IsPieceBefore AfterLogon (skipped c) next = (c ≢ stx) × (c ≢ eot)
IsPieceBefore AfterLogon lone_eot next = FirstIs (λ c. c ≢ cr) next
IsPieceBefore AfterLogon bye next = Unit {0}
IsPieceBefore AfterLogon (dropped b) next = IsBody b × FirstIs (λ c. c ≡ stx) next
IsPieceBefore AfterLogon (block b e t) next = IsBody b × IsTrailer t
IsPieceBefore mode piece next = ⊥

-- `ESC PG1` and nothing or six characters, which are the password where one is set
abbrev pub is_password_word : Option (List ℕ) → List ℕ → Bool
is_password_word None word = (length word == 0) || (length word == 6)
is_password_word (Some password) word = (length word == 6) && pointwise nat_eq word password

-- a logon
abbrev pub is_logon : Option (List ℕ) → List ℕ → Bool
is_logon password (a ∷ b ∷ c ∷ d ∷ word) = (a == 27) && (b == 80) && (c == 71) && (d == 49) && is_password_word password word
is_logon password l = false

-- a line without LF
abbrev pub without_lf : List ℕ → List ℕ
without_lf l = filter (λ c. not (c == lf)) l

-- What a piece is for the terminal. A block has its body, its end, and whether its trailer is right.
pub data Entry : Type 0 where
  empty_line : Entry
  logon : Entry
  wrong_line : Entry
  a_block : List ℕ → End → Bool → Entry
  a_bye : Entry

-- the item of a line, by its characters without LF
abbrev pub line_item : Option (List ℕ) → List ℕ → Entry
line_item password [] = empty_line
line_item password (c ∷ l) = if is_logon password (c ∷ l) then logon else wrong_line

-- a right trailer is the sum from STX through the end, and CR
abbrev pub is_right : List ℕ → End → List ℕ → Bool
is_right b e t = pointwise nat_eq t (written (sum_of ((stx ∷ b) ++ end_char e ∷ [])) ++ cr ∷ [])

-- the item of a piece, if it has one
abbrev pub item_of : Option (List ℕ) → InputPiece → Option Entry
item_of password (line l) = Some (line_item password (without_lf l))
item_of password (skipped c) = None
item_of password lone_eot = None
item_of password bye = Some a_bye
item_of password (dropped b) = None
item_of password (block b e t) = Some (a_block b e (is_right b e t))

-- a logon begins the blocks
abbrev pub mode_by : Entry → Mode → Mode
mode_by logon mode = AfterLogon
mode_by other mode = mode

-- what is read behind a piece
abbrev pub mode_after : Option (List ℕ) → InputPiece → Mode → Mode
mode_after password (line l) mode = mode_by (line_item password (without_lf l)) mode
mode_after password other mode = mode

-- no front of the list is a piece in its place
abbrev pub HasNoPiece : Mode → List ℕ → Type 0
HasNoPiece mode rest = (piece : InputPiece) (next : List ℕ) → rest ≡ piece_text piece ++ next → IsPieceBefore mode piece next → ⊥

-- The characters are these pieces one after another, each in its place, and this rest.
abbrev pub Reads : Option (List ℕ) → Mode → List InputPiece → List ℕ → List ℕ → Type 0
Reads password mode [] rest x = (x ≡ rest) × HasNoPiece mode rest
Reads password mode (piece ∷ pieces) rest x =
    (next : List ℕ) × (x ≡ piece_text piece ++ next) × IsPieceBefore mode piece next
    × Reads password (mode_after password piece mode) pieces rest next

-- the mode after pieces, and their items
abbrev pub mode_at : Option (List ℕ) → Mode → List InputPiece → Mode
mode_at password mode [] = mode
mode_at password mode (piece ∷ pieces) = mode_at password (mode_after password piece mode) pieces

-- the items of pieces
abbrev pub items_of : Option (List ℕ) → List InputPiece → List Entry
items_of password pieces = filter_map (item_of password) pieces

-- A list has one reading and no other.
pub record HasOneReading (password : Option (List ℕ)) (mode : Mode) (x : List ℕ) : Type 0 where
  pub pieces : List InputPiece
  pub rest : List ℕ
  pub reads : Reads password mode pieces rest x
  pub only : (others : List InputPiece) (other : List ℕ) → Reads password mode others other x → (others ≡ pieces) × (other ≡ rest)
