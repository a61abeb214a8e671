-- What a contract sees of a pool.
use Rattle.std.specs.Prelude.{◌≡◌, ℕ, ◌+◌, ◌*◌, ◌/◌, ◌%◌, ◌<◌, ◌≤◌, Bool, true, ◌==◌, List, [], ◌∷◌, ◌++◌, map, length, slice_index}
use Rattle.std.specs.List.{filter}
use Rattle.page_pool.specs.Chain.{AreBelow, AreDistinct}
use Rattle.codeword.specs.declared.functions.Function.{Function}
use Rattle.codeword.specs.Capcodes.{frame_of}
use Rattle.page_text.specs.Fits.{Fits}
use Rattle.page_text.specs.Page.{Page}
use Rattle.page_pool.specs.Cells.{cells_of}

-- a live page, with its ticket and the numbers of its cells
pub record Live : Type 0 where
  pub ticket : ℕ
  pub page : Page
  pub places : List ℕ

-- the live pages, first put first, the number of spare cells, and the bytes of all cells
pub record Pool : Type 0 where
  pub live : List Live
  pub spare : ℕ
  pub region : List ℕ

-- the live pages
abbrev pub pages : Pool → List Page
pages w = map (λ e. e.page) w.live

-- the cells that these pages take
abbrev pub in_use : List Live → ℕ
in_use [] = 0
in_use (e ∷ es) = cells_of e.page + in_use es

-- the cells of the making
abbrev pub cells : Pool → ℕ
cells w = in_use w.live + w.spare

-- the page is of the frame
abbrev pub live_in_frame : ℕ → Live → Bool
live_in_frame f e = frame_of e.page.capcode == f

-- the ticket names a live page, e, which stands between these two parts of the list
pub record Names (w : Pool) (t : ℕ) (e : Live) : Type 0 where
  pub before : List Live
  pub after : List Live
  pub is : w.live ≡ before ++ e ∷ after
  pub ticket : e.ticket ≡ t

-- the ticket names a live page
abbrev pub IsLive : Pool → ℕ → Type 0
IsLive w t = (e : Live) × Names w t e

-- the page was added at the end
pub record PutsPage (old new : Pool) (page : Page) : Type 0 where
  pub entry : Live
  pub is : entry.page ≡ page
  pub at_end : new.live ≡ old.live ++ entry ∷ []
  pub spare : new.spare + cells_of page ≡ old.spare

-- the page of this ticket was taken out
pub record TakesPage (old new : Pool) (t : ℕ) : Type 0 where
  pub before : List Live
  pub entry : Live
  pub after : List Live
  pub ticket : entry.ticket ≡ t
  pub was : old.live ≡ before ++ entry ∷ after
  pub left : new.live ≡ before ++ after
  pub spare : new.spare ≡ old.spare + cells_of entry.page
  pub region : new.region ≡ old.region

-- what put is given
abbrev pub page : ℕ → Function → List ℕ → Page
page capcode function text = record { capcode = capcode; function = function; text = text }

-- the cells of these pages
abbrev pub places_of : List Live → List ℕ
places_of [] = []
places_of (e ∷ es) = e.places ++ places_of es

-- what holds of a live page: its text fits, and lies in its cells
pub record Lies (w : Pool) (e : Live) : Type 0 where
  pub fits : Fits e.page.function e.page.text
  pub size : length e.places ≡ cells_of e.page
  pub byte : (i : ℕ) → i < length e.page.text → slice_index e.page.text i ≡ slice_index w.region (32 * slice_index e.places (i / 32) + i % 32)

-- what holds in every pool
pub record Sound (w : Pool) : Type 0 where
  -- no two live pages have one ticket
  pub tickets : AreDistinct (map (λ (e : Live). e.ticket) w.live)
  -- each live page lies in its cells
  pub pages : (t : ℕ) (e : Live) → Names w t e → Lies w e
  -- the places of all live pages are below the cells of the making, and all differ
  pub below : AreBelow (cells w) (places_of w.live)
  pub apart : AreDistinct (places_of w.live)
  -- the cells of the making are 1 to 65,536, and the region has 32 bytes for each
  pub some : 0 < cells w
  pub most : cells w ≤ 65536
  pub whole : length w.region ≡ 32 * cells w

-- the first page of the frame was taken out, e
pub record TakesFirst (old new : Pool) (f : ℕ) (e : Live) : Type 0 where
  pub before : List Live
  pub after : List Live
  pub was : old.live ≡ before ++ e ∷ after
  pub mine : live_in_frame f e ≡ true
  pub none_before : filter (live_in_frame f) before ≡ []
  pub left : new.live ≡ before ++ after
