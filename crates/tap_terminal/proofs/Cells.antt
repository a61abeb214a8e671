-- The cells of a pool that gained pages.
use Rattle.std.proofs.Common.{◌≡◌, ◌+◌, List, ◌∷◌, [], ap, ◌∙◌, arith}
use Rattle.page_pool.proofs.Lists.{in_use-append}
use Rattle.page_pool.specs.Cells.{cells_of}
use Rattle.page_pool.specs.Gains.{Gains}
use Rattle.page_pool.specs.Pool.{Pool, PutsPage, cells, in_use}
use Rattle.page_text.specs.Page.{Page}

-- one page
cells_put : (old new : Pool) (page : Page) → PutsPage old new page → cells new ≡ cells old
cells_put old new page h =
    let one : in_use new.live ≡ in_use old.live + cells_of h.entry.page = (let e = in_use-append old.live (h.entry ∷ []) in omega (arith, e, ap in_use h.at_end)) in
    let two : cells_of h.entry.page ≡ cells_of page = ap cells_of h.is in
    omega (arith, one, two, h.spare)

-- they stay
pub cells_gain : (old new : Pool) (gained : List Page) → Gains old new gained → cells new ≡ cells old
cells_gain old new [] h = ap cells h
cells_gain old new (page ∷ pages) h = cells_gain h.0 new pages h.2 ∙ cells_put old h.0 page h.1
