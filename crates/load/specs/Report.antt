-- The six lines. docs/profile.md, "load mode".
use Rattle.std.specs.Prelude.{ℕ, List, [], ◌∷◌, ◌++◌, codes, decimal}
use Rattle.load.specs.declared.report.Report.{Report}

-- a line: its word, and a number
abbrev pub counted_line : List ℕ → ℕ → List ℕ
counted_line word number = word ++ decimal number ++ 10 ∷ []

-- the lines of what was counted
abbrev pub load_lines : Report → List ℕ
load_lines r =
    counted_line (codes "pages ") r.pages ++ counted_line (codes "batches ") r.batches ++ counted_line (codes "lines ") r.lines
    ++ counted_line (codes "bytes ") r.bytes ++ counted_line (codes "sum ") r.sum ++ counted_line (codes "kept ") r.kept
