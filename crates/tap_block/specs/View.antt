-- What a scanner's fields stand for.
use Rattle.std.specs.Prelude.{ℕ, ◌+◌, ◌≤◌, ◌<◌, List, length}
use Rattle.tap_block.specs.declared.scanner.Place.{Place}
use Rattle.tap_block.specs.declared.scanner.Place.TheVariants.{InLine, Between, AfterEot, InBody, InTrailer}
use Rattle.tap_block.specs.declared.scanner.Scanner.TheInside.{Inside}
use Rattle.tap_block.specs.Brief.{Brief, in_line, between, after_eot, in_body, in_trailer, body_kept}

-- the form of the rest, by the place and what is kept there
abbrev pub brief_at : Place → List ℕ → ℕ → ℕ → List ℕ → Brief
brief_at InLine line size total trailer = in_line line
brief_at Between line size total trailer = between
brief_at AfterEot line size total trailer = after_eot
brief_at InBody line size total trailer = in_body size total
brief_at (InTrailer e) line size total trailer = in_trailer size total e trailer

-- the form of the rest, by the fields
abbrev pub brief_of : Inside → Brief
brief_of s = brief_at s.place s.line.items s.size s.total s.trailer.items

-- the fields are in their ranges
pub record ScannerIsInRange (s : Inside) : Type 0 where
  pub size_bound : s.size ≤ body_kept + 1
  pub total_bound : s.total < 4096
  pub trailer_bound : length s.trailer.items < 4
