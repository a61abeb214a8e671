-- What holds of every region.
use Rattle.std.proofs.Common.{◌≡◌, ◌≢◌, ℕ, ◌+◌, ◌<◌, ◌≤◌, inl, inr, List, ◌∷◌, ◌++◌, length, ◌∙◌, ap, arith}
use Rattle.std.proofs.lemmas.Bool.Decides.{leb_tells}
use Rattle.std.proofs.lemmas.List.{get_or-set_same, get_or-set_other}
use Rattle.std.specs.Prelude.{slice_set}
use Rattle.page_text.specs.Page.{Page}
use Rattle.page_pool.specs.Cells.{cells_for}
use Rattle.page_pool.specs.Chain.{walk, times}
use Rattle.page_pool.specs.Pool.{Live}
use Rattle.page_pool.specs.Layout.{capcode_in, function_in, NONE, head, after_of, link_of, places, text_in_cells, page_at, entry, used, IsRegion}
use Rattle.page_pool.specs.declared.heads.Head.{Head}
use Rattle.page_pool.specs.declared.heads.Ends.{Ends}
use Rattle.page_pool.proofs.Chains.{times-append, times-part, times-firsts, walk_is, walk_same}
use Rattle.page_pool.proofs.Writes.{Fixed, fixed}
use Rattle.page_pool.proofs.Texts.{cells_for-suc}

-- the link that was written
pub link-same : (links : List ℕ) (c v : ℕ) → c < length links → link_of (slice_set links c v) c ≡ v
link-same links c v l = get_or-set_same links c v 0 l

-- another link
pub link-other : (links : List ℕ) (c v x : ℕ) → x ≢ c → link_of (slice_set links c v) x ≡ link_of links x
link-other links c v x ne = get_or-set_other links c x v 0 ne

-- the first of a page's cells is that of its head
pub own : (links : List ℕ) (hs : List Head) (c : ℕ) → (r : List ℕ) × (places links hs c ≡ c ∷ r)
own links hs c = let e = cells_for-suc (head hs c).length in (walk (link_of links) e.0 (link_of links c), ap (λ n. walk (link_of links) n c) e.1)

-- the page of these cells and these parts of a head
abbrev page_of : List ℕ → List ℕ → Fixed → Page
page_of bytes cells f = record { capcode = capcode_in f.address; function = function_in f.address; text = text_in_cells bytes cells f.length }

-- a page stays where its head, its cells and its text stay
pub page-same : (bytes bytes' links links' : List ℕ) (hs hs' : List Head) (c : ℕ) → fixed (head hs' c) ≡ fixed (head hs c)
    → places links' hs' c ≡ places links hs c → text_in_cells bytes' (places links hs c) (head hs c).length ≡ text_in_cells bytes (places links hs c) (head hs c).length
    → page_at bytes' links' hs' c ≡ page_at bytes links hs c
page-same bytes bytes' links links' hs hs' c e p t =
    let a : page_at bytes' links' hs' c ≡ page_of bytes' (places links hs c) (fixed (head hs' c)) = ap (λ l. page_of bytes' l (fixed (head hs' c))) p in
    let b : page_of bytes' (places links hs c) (fixed (head hs' c)) ≡ page_of bytes' (places links hs c) (fixed (head hs c)) = ap (page_of bytes' (places links hs c)) e in
    let d : page_of bytes' (places links hs c) (fixed (head hs c)) ≡ page_at bytes links hs c = ap (λ (l : List ℕ). let q : Page = record { capcode = capcode_in (head hs c).address; function = function_in (head hs c).address; text = l } in q) t in
    a ∙ b ∙ d

-- so does its entry
pub entry-same : (bytes bytes' links links' : List ℕ) (hs hs' : List Head) (c : ℕ) → page_at bytes' links' hs' c ≡ page_at bytes links hs c
    → places links' hs' c ≡ places links hs c → entry bytes' links' hs' c ≡ entry bytes links hs c
entry-same bytes bytes' links links' hs hs' c e p =
    let a : entry bytes' links' hs' c ≡ record { ticket = c; page = page_at bytes links hs c; places = places links' hs' c } = ap (λ (q : Page). let v : Live = record { ticket = c; page = q; places = places links' hs' c } in v) e in
    a ∙ ap (λ (l : List ℕ). let v : Live = record { ticket = c; page = page_at bytes links hs c; places = l } in v) p

-- a page's cells, where none of them got another link
pub places-same : (links links' : List ℕ) (hs hs' : List Head) (c : ℕ) → fixed (head hs' c) ≡ fixed (head hs c)
    → ((x : ℕ) → 0 < times x (places links hs c) → link_of links' x ≡ link_of links x) → places links' hs' c ≡ places links hs c
places-same links links' hs hs' c e h =
    let a : places links' hs' c ≡ walk (link_of links') (cells_for (head hs c).length) c = ap (λ (f : Fixed). walk (link_of links') (cells_for f.length) c) e in
    a ∙ walk_same (link_of links) (link_of links') (cells_for (head hs c).length) c h

module _ (bytes links : List ℕ) (hs : List Head) (free spare first last count : ℕ) (frames : List Ends) (r : IsRegion bytes links hs free spare first last count frames) where
  -- all that stands in the chains is a cell
  pub below : (x : ℕ) → 0 < times x (used links hs r.order ++ r.unused) → x < length hs
  below x k = elim (leb_tells (length hs) x) [ inl h ↦ absurd (let z = r.within x h.1 in omega (arith, z, k)) | inr h ↦ h.1 ]

  -- no cell is both used and spare, or twice in either
  pub one : (x : ℕ) → times x (used links hs r.order) + times x r.unused ≤ 1
  one x = let a = times-append x (used links hs r.order) r.unused in
      elim (leb_tells (length hs) x) [ inl h ↦ let z = r.within x h.1 in omega (arith, z, a) | inr h ↦ let z = r.once x h.1 in omega (arith, z, a) ]

  -- the cells of pages are cells
  pub below_used : (x : ℕ) → 0 < times x (used links hs r.order) → x < length hs
  below_used x k = below x (omega (arith, times-append x (used links hs r.order) r.unused, k))

  -- the spare cells are cells
  pub below_unused : (x : ℕ) → 0 < times x r.unused → x < length hs
  below_unused x k = below x (omega (arith, times-append x (used links hs r.order) r.unused, k))

  -- a head stands at a cell of its page
  pub firsts : (x : ℕ) → times x r.order ≤ times x (used links hs r.order)
  firsts x = times-firsts (places links hs) x r.order (own links hs)

  -- heads stand at cells
  pub below_order : (x : ℕ) → 0 < times x r.order → x < length hs
  below_order x k = below_used x (omega (arith, firsts x, k))

  -- no two pages have their heads at one cell
  pub one_order : (x : ℕ) → times x r.order ≤ 1
  one_order x = omega (arith, firsts x, one x)

  -- the cells of one page are among those of all
  pub part : (x c : ℕ) → 0 < times c r.order → times x (places links hs c) ≤ times x (used links hs r.order)
  part x c k = times-part (places links hs) x c r.order k

  -- the end is no head
  pub none_order : times NONE r.order ≡ 0
  none_order = elim (leb_tells 1 (times NONE r.order)) [ inl h ↦ absurd (let z = below_order NONE (omega (arith, h.1)) in omega (arith, z, r.most)) | inr h ↦ omega (arith, h.1) ]

  -- the heads from the first on are the order
  pub order_is : walk (after_of hs) count first ≡ r.order
  order_is = ap (λ n. walk (after_of hs) n first) r.count_is ∙ ap (λ c. walk (after_of hs) (length r.order) c) r.first_is ∙ walk_is (after_of hs) r.order NONE r.onward
