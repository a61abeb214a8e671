-- Pages that are put one after another.
use Rattle.std.specs.Prelude.{◌≡◌, ℕ, ◌+◌, List, [], ◌∷◌, map}
use Rattle.codeword.specs.declared.functions.Function.{Function}
use Rattle.page_text.specs.Page.{Page}
use Rattle.page_pool.specs.Cells.{cells_of}
use Rattle.page_pool.specs.Pool.{Pool, PutsPage, page}

-- the cells of pages
abbrev pub cells_of_all : List Page → ℕ
cells_of_all [] = 0
cells_of_all (p ∷ ps) = cells_of p + cells_of_all ps

-- the pool gained these pages at its end, in their order
abbrev pub Gains : Pool → Pool → List Page → Type 0
Gains old new [] = new ≡ old
Gains old new (page ∷ pages) = (mid : Pool) × PutsPage old mid page × Gains mid new pages

-- a page for each of these capcodes, in their order
abbrev pub pages_to : List ℕ → Function → List ℕ → List Page
pages_to capcodes function text = map (λ capcode. page capcode function text) capcodes
