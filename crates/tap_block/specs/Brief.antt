-- What a scanner keeps of the rest that is not read yet.
use Rattle.std.specs.Prelude.{◌≡◌, ◌≢◌, ℕ, ◌+◌, ◌<◌, min, List, [], ◌∷◌, ◌++◌, length, take, Option, Some}
use Rattle.std.specs.List.{AllByRecursion}
use Rattle.std.specs.Option.{option_to_list, option_map}
use Rattle.tap_block.specs.declared.ends.End.{End}
use Rattle.tap_block.specs.declared.items.Item.{Item}
use Rattle.tap_block.specs.declared.items.Item.TheVariants.{EmptyLine, Logon, WrongLine, Block, Bye}
use Rattle.entry_line.specs.Chars.{cr}
use Rattle.tap_block.specs.Chars.{stx, eot, sum_of, end_char}
use Rattle.tap_block.specs.Reading.{Mode, BeforeLogon, AfterLogon, InputPiece, IsBody, Reads, mode_at, items_of, without_lf, Entry, logon, empty_line, wrong_line, a_block, a_bye}

-- how many characters of a body are kept, and how many of a line, which is one more than the longest logon has
abbrev pub body_kept : ℕ
body_kept = 250

abbrev pub line_kept : ℕ
line_kept = 11

-- the length of a body, where one length stands for all that are too long
abbrev pub size_of : List ℕ → ℕ
size_of b = min (length b) (body_kept + 1)

-- The form of the rest.
pub data Brief : Type 0 where
  -- the beginning of a line: its first characters without LF
  in_line : List ℕ → Brief
  -- nothing
  between : Brief
  -- an EOT
  after_eot : Brief
  -- STX and the beginning of a body: its length, and the sum since STX
  in_body : ℕ → ℕ → Brief
  -- STX, a body, its end and the beginning of a trailer: the same, the end, and that beginning
  in_trailer : ℕ → ℕ → End → List ℕ → Brief

-- what a scanner holds: the password, the front of the last body, and the form of the rest
pub record ScannerState : Type 0 where
  pub password : Option (List ℕ)
  pub kept : List ℕ
  pub brief : Brief

-- the front of the body, and its length
abbrev pub IsKept : List ℕ → ℕ → List ℕ → Type 0
IsKept kept size b = (kept ≡ take body_kept b) × (size ≡ size_of b)

-- the beginning of a trailer, and no whole one
abbrev pub IsTrailerFront : List ℕ → Type 0
IsTrailerFront t = AllByRecursion (λ c. c ≢ cr) t × (length t < 4)

-- the rest is STX and the beginning of the body b
pub record InBody (rest kept : List ℕ) (size total : ℕ) (b : List ℕ) : Type 0 where
  pub form : rest ≡ stx ∷ b
  pub body : IsBody b
  pub front : IsKept kept size b
  pub so_far : total ≡ sum_of (stx ∷ b)

-- the rest is STX, the body b, its end, and the beginning of a trailer
pub record InTrailer (rest kept : List ℕ) (size total : ℕ) (e : End) (t b : List ℕ) : Type 0 where
  pub form : rest ≡ (stx ∷ b) ++ end_char e ∷ t
  pub body : IsBody b
  pub trailer : IsTrailerFront t
  pub front : IsKept kept size b
  pub so_far : total ≡ sum_of ((stx ∷ b) ++ end_char e ∷ [])

-- the rest has this form
abbrev pub IsBrief : Mode → List ℕ → List ℕ → Brief → Type 0
IsBrief BeforeLogon rest kept (in_line l) = (l ≡ take line_kept (without_lf rest)) × AllByRecursion (λ c. c ≢ cr) rest
IsBrief AfterLogon rest kept between = rest ≡ []
IsBrief AfterLogon rest kept after_eot = rest ≡ eot ∷ []
IsBrief AfterLogon rest kept (in_body size total) = (b : List ℕ) × InBody rest kept size total b
IsBrief AfterLogon rest kept (in_trailer size total e t) = (b : List ℕ) × InTrailer rest kept size total e t b
IsBrief mode rest kept brief = ⊥

-- The scanner stands for the characters x, read from this mode on, and these are their items.
pub record ScannerStandsFor (from : Mode) (s : ScannerState) (x : List ℕ) (items : List Entry) : Type 0 where
  pub pieces : List InputPiece
  pub rest : List ℕ
  pub reads : Reads s.password from pieces rest x
  pub items_are : items ≡ items_of s.password pieces
  pub brief_is : IsBrief (mode_at s.password from pieces) rest s.kept s.brief

-- how a scanner answers an item: of a block the length of its body
abbrev pub answer_of : Entry → Item
answer_of empty_line = EmptyLine
answer_of logon = Logon
answer_of wrong_line = WrongLine
answer_of (a_block b e right) = Block e right (size_of b)
answer_of a_bye = Bye

-- of a block, the front of its body is lent
abbrev pub BodyIs : Option Entry → List ℕ → Type 0
BodyIs (Some (a_block b e right)) kept = kept ≡ take body_kept b
BodyIs other kept = Unit {0}

-- With one character more the items are the ones before and at most one further item, and this is the answer.
pub record ReadsOn (from : Mode) (new : ScannerState) (x : List ℕ) (items : List Entry) (c : ℕ) (answer : Option Item) : Type 0 where
  pub further : Option Entry
  pub stands : ScannerStandsFor from new (x ++ c ∷ []) (items ++ option_to_list further)
  pub answer_is : answer ≡ option_map answer_of further
  pub body_is : BodyIs further new.kept
