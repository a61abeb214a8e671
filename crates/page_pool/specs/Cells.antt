-- How many cells a page takes.
use Rattle.std.specs.Prelude.{ℕ, ◌+◌, ◌/◌, max, length}
use Rattle.page_text.specs.Fits.{Fits}
use Rattle.page_text.specs.Page.{Page}

-- the cells of 32 characters that a text of so many characters takes: at least one
abbrev pub cells_for : ℕ → ℕ
cells_for n = max 1 ((n + 31) / 32)

-- the cells of a page
abbrev pub cells_of : Page → ℕ
cells_of p = cells_for (length p.text)

-- the page's text fits its function
abbrev pub FitsPage : Page → Type 0
FitsPage p = Fits p.function p.text
