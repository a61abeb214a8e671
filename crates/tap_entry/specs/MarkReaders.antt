-- What a reader of marks keeps of the characters that are no mark yet.
use Rattle.entry_line.specs.Kept.{push_within}
use Rattle.std.specs.Prelude.{◌≡◌, ℕ, ◌==◌, Bool, true, false, ◌&&◌, if◌then◌else◌, List, [], ◌∷◌, ◌++◌, take, codes, Option, Some, None}
use Rattle.std.specs.List.{filter_map}
use Rattle.std.specs.Option.{option_to_list}
use Rattle.entry_line.specs.Chars.{lf, cr}
use Rattle.tap_block.specs.Chars.{eot, esc}
use Rattle.tap_entry.specs.declared.hearing.Mark.{Mark}
use Rattle.tap_entry.specs.declared.hearing.Mark.TheVariants.{Id, Ack, Nak, Rs, End, Go}
use Rattle.tap_entry.specs.declared.hearing.Seen.{Seen}
use Rattle.tap_entry.specs.declared.hearing.Seen.TheVariants.{Nothing, I, Id as IdSeen}
use Rattle.tap_block.specs.Reading.{without_lf}
use Rattle.tap_entry.specs.Marks.{ack, nak, rs, same, Cuts, mark_of}

-- the first characters of the rest, and how much of `ID=` it ends in
pub record MarkReader : Type 0 where
  pub line : List ℕ
  pub seen : Seen

-- an `I` was seen
abbrev pub is_i : Seen → Bool
is_i I = true
is_i other = false

-- `ID` was seen
abbrev pub saw_id : Seen → Bool
saw_id IdSeen = true
saw_id other = false

-- what is seen after one character more
abbrev pub seen_by : Seen → ℕ → Seen
seen_by seen c = if c == 73 then I else if (c == 68) && is_i seen then IdSeen else Nothing

-- what is seen after characters
abbrev pub seen_from : Seen → List ℕ → Seen
seen_from seen [] = seen
seen_from seen (c ∷ x) = seen_from (seen_by seen c) x

-- The reader of marks stands for the characters, whose marks are these: it has the first four of the rest, and how much of `ID=` the
-- rest ends in.
pub record ReaderStandsFor (ear : MarkReader) (x : List ℕ) (marks : List Mark) : Type 0 where
  pub pieces : List (List ℕ)
  pub rest : List ℕ
  pub cuts : Cuts pieces rest (without_lf x)
  pub marks_are : marks ≡ filter_map mark_of pieces
  pub line_is : ear.line ≡ take 4 rest
  pub seen_is : ear.seen ≡ seen_from Nothing rest

-- the mark of a line without its CR
abbrev pub line_mark : List ℕ → Option Mark
line_mark l =
    if same l (ack ∷ []) then Some Ack
    else if same l (nak ∷ []) then Some Nak
    else if same l (rs ∷ []) then Some Rs
    else if same l (esc ∷ eot ∷ []) then Some End
    else if same l (esc ∷ codes "[p") then Some Go
    else None

-- what is kept after a character, and the mark that it completes
pub record ReaderStepped : Type 0 where
  pub ear : MarkReader
  pub mark : Option Mark

-- nothing is kept
abbrev pub fresh : MarkReader
fresh = record { line = []; seen = Nothing }

-- one character further
abbrev pub reader_step : MarkReader → ℕ → ReaderStepped
reader_step e c =
    if c == lf then record { ear = e; mark = None }
    else if c == cr then record { ear = fresh; mark = line_mark e.line }
    else if (c == 61) && saw_id e.seen then record { ear = fresh; mark = Some Id }
    else record { ear = record { line = push_within 4 e.line c; seen = seen_by e.seen c }; mark = None }

-- the marks that a reader of marks finds in characters, computed
abbrev pub heard_from : MarkReader → List ℕ → List Mark
heard_from e [] = []
heard_from e (c ∷ x) = option_to_list (reader_step e c).mark ++ heard_from (reader_step e c).ear x

-- the marks of characters, computed
abbrev pub marks_of : List ℕ → List Mark
marks_of x = heard_from fresh x
