-- How the region keeps the pages. No public clause cites this module.
use Rattle.std.specs.Prelude.{◌≡◌, ℕ, ◌+◌, ◌*◌, ◌/◌, ◌%◌, ◌<◌, ◌≤◌, Bool, true, false, cond, ◌==◌, List, ◌++◌, map, reverse, length, get_or, slice_set}
use Rattle.std.specs.List.{range_with_len, flat_map, filter}
use Rattle.std.specs.Prelude.{Option, None, Some}
use Rattle.std.specs.Option.{is_some}
use Rattle.codeword.specs.declared.functions.Function.{Function}
use Rattle.codeword.specs.declared.functions.Function.TheVariants.{Numeric}
use Rattle.codeword.specs.Capcodes.{frame_of}
use Rattle.page_text.specs.Page.{Page}
use Rattle.page_pool.specs.Cells.{FitsPage, cells_for}
use Rattle.page_pool.specs.Chain.{Chain, first_or, walk, times}
use Rattle.page_pool.specs.Pool.{Live}
use Rattle.page_pool.specs.declared.heads.Address.{Address}
use Rattle.page_pool.specs.declared.heads.Head.{Head}
use Rattle.page_pool.specs.declared.heads.Ends.{Ends}

-- the end of a chain
abbrev pub NONE : ℕ
NONE = 4294967295

-- a head without a page
abbrev pub blank : Head
blank = record { address = None; length = 0; before = 0; after = 0; peer_before = 0; peer_after = 0 }

-- the capcode of an address, and 0 where there is none
abbrev pub capcode_in : Option Address → ℕ
capcode_in None = 0
capcode_in (Some a) = a.capcode

-- the function of an address, and any where there is none
abbrev pub function_in : Option Address → Function
function_in None = Numeric
function_in (Some a) = a.function

-- the head at c
abbrev pub head : List Head → ℕ → Head
head hs c = get_or hs c blank

-- the page that was put before the page at c
abbrev pub before_of : List Head → ℕ → ℕ
before_of hs c = (head hs c).before

-- the page that was put after it
abbrev pub after_of : List Head → ℕ → ℕ
after_of hs c = (head hs c).after

-- the page of its frame that was put before it
abbrev pub peer_before : List Head → ℕ → ℕ
peer_before hs c = (head hs c).peer_before

-- the page of its frame that was put after it
abbrev pub peer_after : List Head → ℕ → ℕ
peer_after hs c = (head hs c).peer_after

-- whether the page at c is of the frame
abbrev pub of_frame : List Head → ℕ → ℕ → Bool
of_frame hs f c = frame_of (capcode_in (head hs c).address) == f

-- the ends of the chain of a frame
abbrev pub ends : List Ends → ℕ → Ends
ends frames f = get_or frames f (record { first = 0; last = 0 })

-- the cell that a cell is linked to
abbrev pub link_of : List ℕ → ℕ → ℕ
link_of links c = get_or links c 0

-- the cells from one on that a text of so many characters takes
abbrev pub cells_from : List ℕ → ℕ → ℕ → List ℕ
cells_from links c n = walk (link_of links) (cells_for n) c

-- the bytes of all other cells are as they were
abbrev pub KeepsOthers : List ℕ → List ℕ → List ℕ → Type 0
KeepsOthers old new cells = (k : ℕ) → times k cells ≡ 0 → (j : ℕ) → j < 32 → get_or new (32 * k + j) 0 ≡ get_or old (32 * k + j) 0

-- the cells of the page whose head stands at c
abbrev pub places : List ℕ → List Head → ℕ → List ℕ
places links hs c = cells_from links c (head hs c).length

-- byte i of a text that lies in these cells
abbrev pub byte_at : List ℕ → List ℕ → ℕ → ℕ
byte_at bytes cells i = get_or bytes (32 * get_or cells (i / 32) 0 + i % 32) 0

-- so many characters of a text that lies in these cells
abbrev pub text_in_cells : List ℕ → List ℕ → ℕ → List ℕ
text_in_cells bytes cells n = map (byte_at bytes cells) (range_with_len 0 n)

-- the page whose head stands at c
abbrev pub page_at : List ℕ → List ℕ → List Head → ℕ → Page
page_at bytes links hs c = record { capcode = capcode_in (head hs c).address; function = function_in (head hs c).address; text = text_in_cells bytes (places links hs c) (head hs c).length }

-- the live page whose head stands at c
abbrev pub entry : List ℕ → List ℕ → List Head → ℕ → Live
entry bytes links hs c = record { ticket = c; page = page_at bytes links hs c; places = places links hs c }

-- the heads with another link in the head at c; none is changed where no head stands there
abbrev pub with_after : List Head → ℕ → ℕ → List Head
with_after hs c to = slice_set hs c (record (head hs c) { after = to })

-- the same with another link back
abbrev pub with_before : List Head → ℕ → ℕ → List Head
with_before hs c to = slice_set hs c (record (head hs c) { before = to })

-- the same with another link on within the frame
abbrev pub with_peer_after : List Head → ℕ → ℕ → List Head
with_peer_after hs c to = slice_set hs c (record (head hs c) { peer_after = to })

-- the same with another link back within the frame
abbrev pub with_peer_before : List Head → ℕ → ℕ → List Head
with_peer_before hs c to = slice_set hs c (record (head hs c) { peer_before = to })

-- the head at c is no longer that of a live page
abbrev pub retired : List Head → ℕ → List Head
retired hs c = slice_set hs c (record (head hs c) { address = None })

-- the heads without the page at t
abbrev pub unlinked : List Head → ℕ → List Head
unlinked hs t =
    retired
    (with_peer_before
    (with_peer_after
    (with_before (with_after hs (head hs t).before (head hs t).after) (head hs t).after (head hs t).before)
    (head hs t).peer_before (head hs t).peer_after)
    (head hs t).peer_after (head hs t).peer_before)
    t

-- the heads with a page of this head at c behind the last page, and behind the last of its frame
abbrev pub linked : List Head → ℕ → Head → List Head
linked hs c h = with_peer_after (with_after (slice_set hs c h) h.before c) h.peer_before c

-- these cells are chained both ways, from the first to the last
pub record Linked (after before : ℕ → ℕ) (cells : List ℕ) (first last : ℕ) : Type 0 where
  pub onward : Chain after cells NONE
  pub backward : Chain before (reverse cells) NONE
  pub first_is : first ≡ first_or cells NONE
  pub last_is : last ≡ first_or (reverse cells) NONE

-- all cells of these pages
abbrev pub used : List ℕ → List Head → List ℕ → List ℕ
used links hs = flat_map (places links hs)

-- each cell stands in exactly one chain, that of a page or the free one, and all chains end; the heads are linked in put order,
-- and those of each frame once more
pub record IsRegion (bytes links : List ℕ) (hs : List Head) (free spare first last count : ℕ) (frames : List Ends) : Type 0 where
  -- the heads of the live pages, first put first, and the spare cells
  pub order : List ℕ
  pub unused : List ℕ
  -- the heads are linked in this order both ways, and counted
  pub onward : Chain (after_of hs) order NONE
  pub backward : Chain (before_of hs) (reverse order) NONE
  pub first_is : first ≡ first_or order NONE
  pub last_is : last ≡ first_or (reverse order) NONE
  pub count_is : count ≡ length order
  -- so are those of each frame among themselves
  pub frames_are : length frames ≡ 8
  pub peers : (f : ℕ) → f < 8 → Linked (peer_after hs) (peer_before hs) (filter (of_frame hs f) order) (ends frames f).first (ends frames f).last
  -- the spare cells are one chain, and counted
  pub free_chain : Chain (link_of links) unused NONE
  pub free_is : free ≡ first_or unused NONE
  pub spare_is : spare ≡ length unused
  -- the cells of each page are a chain
  pub chains : (c : ℕ) → 0 < times c order → Chain (link_of links) (places links hs c) NONE
  -- each cell is a page's or spare, and no other number is
  pub once : (c : ℕ) → c < length hs → times c (used links hs order ++ unused) ≡ 1
  pub within : (c : ℕ) → length hs ≤ c → times c (used links hs order ++ unused) ≡ 0
  pub total : length (used links hs order ++ unused) ≡ length hs
  -- a head has an address exactly where a live page begins
  pub live : (c : ℕ) → c < length hs → is_some (head hs c).address ≡ (cond (times c order == 0) false true)
  -- each text fits its function
  pub fits : (c : ℕ) → 0 < times c order → FitsPage (page_at bytes links hs c)
  -- a link and 32 bytes for each head, which are 1 to 65,536
  pub links_cells : length links ≡ length hs
  pub bytes_cells : length bytes ≡ 32 * length hs
  pub some : 0 < length hs
  pub most : length hs ≤ 65536
