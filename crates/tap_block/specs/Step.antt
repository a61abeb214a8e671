-- One character further, on what a scanner holds.
use Rattle.entry_line.specs.Kept.{push_within, count_within}
use Rattle.std.specs.Prelude.{ℕ, ◌+◌, ◌%◌, ◌==◌, Bool, ◌||◌, if◌then◌else◌, nat_eq, List, [], ◌∷◌, ◌++◌, length, Option, Some, None}
use lib.Pointwise.{pointwise}
use Rattle.tap_block.specs.declared.ends.End.{End}
use Rattle.tap_block.specs.declared.ends.End.TheVariants.{Etx, Etb, Us}
use Rattle.tap_block.specs.declared.items.Item.{Item}
use Rattle.tap_block.specs.declared.items.Item.TheVariants.{Block, Bye}
use Rattle.entry_line.specs.Chars.{lf, cr}
use Rattle.tap_block.specs.Chars.{stx, etx, eot, etb, us, written, end_char}
use Rattle.tap_block.specs.Reading.{Entry, logon, line_item}
use Rattle.tap_block.specs.Brief.{Brief, in_line, between, after_eot, in_body, in_trailer, ScannerState, answer_of, body_kept, line_kept}

-- what is held after a character, and what is answered to it
pub record ScannerStepped : Type 0 where
  pub held : ScannerState
  pub answer : Option Item

-- no item
abbrev pub silent : ScannerState → ScannerStepped
silent s = record { held = s; answer = None }

-- what follows the item of a line
abbrev pub brief_by : Entry → Brief
brief_by logon = between
brief_by other = in_line []

-- a character that is no part of what was read before it
abbrev pub begin_item : ScannerState → ℕ → ScannerState
begin_item s c =
    if c == stx then record s { kept = []; brief = in_body 0 2 }
    else record s { brief = if c == eot then after_eot else between }

-- the end of a body
abbrev pub end_body : ScannerState → ℕ → ℕ → End → ScannerState
end_body s size total e = record s { brief = in_trailer size ((total + end_char e) % 4096) e [] }

-- one character more of a body
abbrev pub more_body : ScannerState → ℕ → ℕ → ℕ → ScannerState
more_body s size total c =
    record s { kept = push_within body_kept s.kept c; brief = in_body (count_within (body_kept + 1) size) ((total + c) % 4096) }

-- the character makes a trailer whole
abbrev pub is_whole : List ℕ → ℕ → Bool
is_whole t c = (c == cr) || (length t == 3)

-- the end of a trailer
abbrev pub end_block : ScannerState → ℕ → ℕ → End → List ℕ → ScannerStepped
end_block s size total e t = record {
  held = record s { brief = between };
  answer = Some (Block e (pointwise nat_eq t (written total ++ cr ∷ [])) size);
}

-- one character further, where the rest has this form
abbrev pub step_by : ScannerState → Brief → ℕ → ScannerStepped
step_by s (in_line l) c =
    if c == cr then record { held = record s { brief = brief_by (line_item s.password l) }; answer = Some (answer_of (line_item s.password l)) }
    else silent (if c == lf then record s { brief = in_line l } else record s { brief = in_line (push_within line_kept l c) })
step_by s between c = silent (begin_item s c)
step_by s after_eot c = if c == cr then record { held = record s { brief = between }; answer = Some Bye } else silent (begin_item s c)
step_by s (in_body size total) c =
    if c == stx then silent (begin_item s c)
    else if c == etx then silent (end_body s size total Etx)
    else if c == etb then silent (end_body s size total Etb)
    else if c == us then silent (end_body s size total Us)
    else silent (more_body s size total c)
step_by s (in_trailer size total e t) c =
    if is_whole t c then end_block s size total e (t ++ c ∷ [])
    else silent (record s { brief = in_trailer size total e (t ++ c ∷ []) })

-- one character further
abbrev pub scanner_step : ScannerState → ℕ → ScannerStepped
scanner_step s c = step_by s s.brief c
