-- `take`, over the fields of a pool.
use Rattle.std.proofs.Common.{◌≡◌, ℕ, zero, suc, ◌+◌, ◌-◌, ◌<◌, ◌≤◌, cond, ◌==◌, List, [], ◌∷◌, ◌++◌, map, length, get_or, refl, sym, ◌∙◌, ap, subst, arith}
use Rattle.std.specs.Prelude.{slice_set}
use Rattle.page_text.specs.declared.limits.TheConstants.{LONGEST_TEXT}
use Rattle.page_pool.specs.Cells.{FitsPage, cells_for, cells_of}
use Rattle.page_pool.specs.Chain.{walk, times, cell_behind}
use Rattle.page_pool.specs.Pool.{Pool, IsLive, TakesPage}
use Rattle.page_pool.specs.Layout.{head, ends, after_of, places, link_of, page_at, entry, unlinked, IsRegion}
use Rattle.page_pool.specs.Region.{view_of, PoolHolds}
use Rattle.page_pool.specs.declared.heads.Head.{Head}
use Rattle.page_pool.specs.declared.heads.Ends.{Ends}
use Rattle.page_pool.specs.declared.pool.Pool.TheInside.{Inside}
use Rattle.codeword.specs.Capcodes.{frame_of}
use Rattle.page_pool.specs.Layout.{capcode_in}
use Rattle.page_pool.proofs.Texts.{cells_for-suc, fits-short}
use Rattle.page_pool.proofs.Named.{found, length-text}
use Rattle.page_pool.proofs.Take as take

-- a head that was read
pub read_head : (hs : List Head) (c : ℕ) (x : Head) → c < length hs → x ≡ get_or hs c x → x ≡ head hs c
read_head [] c x l e = absurd (omega (arith, l))
read_head (h ∷ hs) zero x l e = e
read_head (h ∷ hs) (suc c) x l e = read_head hs c x (omega (arith, l)) e

-- a region over equal fields
pub region-same : (bytes links L : List ℕ) (hs H : List Head) (free F spare S first A last Z count : ℕ) (frames R : List Ends)
    → L ≡ links → H ≡ hs → F ≡ free → S ≡ spare → A ≡ first → Z ≡ last → R ≡ frames
    → IsRegion bytes links hs free spare first last count frames → IsRegion bytes L H F S A Z count R
region-same bytes links L hs H free F spare S first A last Z count frames R e1 e2 e3 e4 e5 e6 e7 r = rw (e1, e2, e3, e4, e5, e6, e7) r

module _ (s : Inside) (r : PoolHolds s) (w : Pool) (v : view_of s ≡ w) (t name : ℕ) (n : t ≡ name) (l : IsLive w name) where
  -- the heads
  abbrev pub hs : List Head
  hs = s.heads.items

  -- the links
  abbrev pub links : List ℕ
  links = s.links.items

  -- where the page stands in the order
  pub sp : (front : List ℕ) × (back : List ℕ) × (r.order ≡ front ++ t ∷ back)
  sp = found s.bytes.items links hs s.free s.spare s.first s.last s.count s.frames r t l.1.before l.0 l.1.after (ap (λ p. p.live) v ∙ l.1.is) (l.1.ticket ∙ sym n)

  -- it takes one cell and so many more
  pub m : (k : ℕ) × (cells_for (head hs t).length ≡ suc k)
  m = cells_for-suc (head hs t).length

  -- its head stands at a cell
  pub below : t < length hs
  below = take.t_below s.bytes.items links hs s.free s.spare s.first s.last s.count s.frames r t m.0 sp.0 sp.1 sp.2 m.1

  -- it has no more characters than the limit
  pub short : (head hs t).length ≤ LONGEST_TEXT
  short =
      let f : FitsPage (page_at s.bytes.items links hs t) = r.fits t (take.t_order s.bytes.items links hs s.free s.spare s.first s.last s.count s.frames r t m.0 sp.0 sp.1 sp.2 m.1) in
      omega (arith, fits-short (page_at s.bytes.items links hs t) f, length-text s.bytes.items (places links hs t) (head hs t).length)

  -- its cells are cells
  pub cells_below : (links' : List ℕ) (k : ℕ) → links' ≡ links → k ≡ cells_for (head hs t).length → (x : ℕ) → 0 < times x (walk (link_of links') (k - 1 + 1) t) → x < length links'
  cells_below links' k e f x h =
      let a : k - 1 + 1 ≡ cells_for (head hs t).length = omega (arith, f, m.1) in
      let b : walk (link_of links') (k - 1 + 1) t ≡ places links hs t = ap (λ j. walk (link_of links') j t) a ∙ ap (λ z. walk (link_of z) (cells_for (head hs t).length) t) e in
      let d : 0 < times x (places links hs t) = subst (λ z. 0 < times x z) b h in
      omega (arith, ap length e, take.mine_below s.bytes.items links hs s.free s.spare s.first s.last s.count s.frames r t m.0 sp.0 sp.1 sp.2 m.1 x d)

  -- the last cell, as the code finds it
  pub end_is : (links' : List ℕ) (k end : ℕ) → links' ≡ links → k ≡ cells_for (head hs t).length → end ≡ cell_behind (link_of links') (k - 1) t → end ≡ cell_behind (link_of links) m.0 t
  end_is links' k end e f h =
      let a : k - 1 ≡ m.0 = omega (arith, f, m.1) in
      h ∙ ap (λ j. cell_behind (link_of links') j t) a ∙ ap (λ z. cell_behind (link_of z) m.0 t) e

  -- the last of them is a cell
  pub end_below : cell_behind (link_of links) m.0 t < length links
  end_below = omega (arith, r.links_cells, take.end_below s.bytes.items links hs s.free s.spare s.first s.last s.count s.frames r t m.0 sp.0 sp.1 sp.2 m.1)

  -- at most 65,536 cells are spare
  pub spare_fits : (k : ℕ) → k ≡ cells_for (head hs t).length → s.spare + k ≤ 65536
  spare_fits k e = omega (arith, e, m.1, take.spare_fits s.bytes.items links hs s.free s.spare s.first s.last s.count s.frames r t m.0 sp.0 sp.1 sp.2 m.1)

  -- a page was counted
  pub counted : 0 < s.count
  counted = take.counted s.bytes.items links hs s.free s.spare s.first s.last s.count s.frames r t m.0 sp.0 sp.1 sp.2 m.1

  -- the ends of frames, as the code writes them
  pub frames_same : (R : List Ends) (h : Head) (i a z : ℕ) → h ≡ head hs t → i ≡ frame_of (capcode_in h.address) → R ≡ slice_set s.frames i (record { first = a; last = z })
      → a ≡ cond ((ends s.frames i).first == t) h.peer_after (ends s.frames i).first
      → z ≡ cond ((ends s.frames i).last == t) h.peer_before (ends s.frames i).last
      → R ≡ take.frames' s.bytes.items links hs s.free s.spare s.first s.last s.count s.frames r t m.0 sp.0 sp.1 sp.2 m.1
  frames_same R h i a z read at e0 ea0 ez0 =
      let e : R ≡ slice_set s.frames (frame_of (capcode_in h.address)) (record { first = a; last = z }) = e0 ∙ ap (λ f. slice_set s.frames f (record { first = a; last = z })) at in
      let ea : a ≡ cond ((ends s.frames (frame_of (capcode_in h.address))).first == t) h.peer_after (ends s.frames (frame_of (capcode_in h.address))).first = ea0 ∙ ap (λ f. cond ((ends s.frames f).first == t) h.peer_after (ends s.frames f).first) at in
      let ez : z ≡ cond ((ends s.frames (frame_of (capcode_in h.address))).last == t) h.peer_before (ends s.frames (frame_of (capcode_in h.address))).last = ez0 ∙ ap (λ f. cond ((ends s.frames f).last == t) h.peer_before (ends s.frames f).last) at in
      let both : Head → List Ends = λ k. slice_set s.frames (frame_of (capcode_in k.address)) (record { first = cond ((ends s.frames (frame_of (capcode_in k.address))).first == t) k.peer_after (ends s.frames (frame_of (capcode_in k.address))).first; last = cond ((ends s.frames (frame_of (capcode_in k.address))).last == t) k.peer_before (ends s.frames (frame_of (capcode_in k.address))).last }) in
      e ∙ ap (λ x. slice_set s.frames (frame_of (capcode_in h.address)) (record { first = x; last = z })) ea
      ∙ ap (λ x. slice_set s.frames (frame_of (capcode_in h.address)) (record { first = cond ((ends s.frames (frame_of (capcode_in h.address))).first == t) h.peer_after (ends s.frames (frame_of (capcode_in h.address))).first; last = x })) ez
      ∙ ap both read

  module _ (L : List ℕ) (H : List Head) (R : List Ends) (k A Z end : ℕ) (h : Head) (kind : k ≡ cells_for (head hs t).length) (read : h ≡ head hs t)
      (end_is : end ≡ cell_behind (link_of links) m.0 t) (L_is : L ≡ slice_set links end s.free) (H_is : H ≡ unlinked hs t)
      (A_is : A ≡ cond (s.first == t) h.after s.first) (Z_is : Z ≡ cond (s.last == t) h.before s.last)
      (R_is : R ≡ take.frames' s.bytes.items links hs s.free s.spare s.first s.last s.count s.frames r t m.0 sp.0 sp.1 sp.2 m.1) where
    -- the links after
    L_is' : L ≡ slice_set links (cell_behind (link_of links) m.0 t) s.free
    L_is' = L_is ∙ ap (λ z. slice_set links z s.free) end_is

    -- the first page after
    A_is' : A ≡ cond (s.first == t) (head hs t).after s.first
    A_is' = A_is ∙ ap (λ (z : Head). cond (s.first == t) z.after s.first) read

    -- the last page after
    Z_is' : Z ≡ cond (s.last == t) (head hs t).before s.last
    Z_is' = Z_is ∙ ap (λ (z : Head). cond (s.last == t) z.before s.last) read

    -- the invariant after `take`
    pub holds : IsRegion s.bytes.items L H t (s.spare + k) A Z (s.count - 1) R
    holds =
        let S : s.spare + k ≡ s.spare + suc m.0 = ap (λ z. s.spare + z) (kind ∙ m.1) in
        region-same s.bytes.items _ L _ H _ t _ (s.spare + k) _ A _ Z (s.count - 1) _ R L_is' H_is refl S A_is' Z_is' R_is
        (take.taken s.bytes.items links hs s.free s.spare s.first s.last s.count s.frames r t m.0 sp.0 sp.1 sp.2 m.1)

    -- the page was taken out
    pub meets : (let new : Pool = record { live = map (entry s.bytes.items L H) (walk (after_of H) (s.count - 1) A); spare = s.spare + k; region = s.bytes.items } in TakesPage w new name)
    meets = record {
      before = map (entry s.bytes.items links hs) sp.0;
      entry = entry s.bytes.items links hs t;
      after = map (entry s.bytes.items links hs) sp.1;
      ticket = n;
      was = sym (ap (λ p. p.live) v) ∙ take.was s.bytes.items links hs s.free s.spare s.first s.last s.count s.frames r t m.0 sp.0 sp.1 sp.2 m.1;
      left = ap (λ z. map (entry s.bytes.items z H) (walk (after_of H) (s.count - 1) A)) L_is'
          ∙ ap (λ z. map (entry s.bytes.items (slice_set links (cell_behind (link_of links) m.0 t) s.free) z) (walk (after_of z) (s.count - 1) A)) H_is
          ∙ ap (λ z. map (entry s.bytes.items (slice_set links (cell_behind (link_of links) m.0 t) s.free) (unlinked hs t)) (walk (after_of (unlinked hs t)) (s.count - 1) z)) A_is'
          ∙ take.left s.bytes.items links hs s.free s.spare s.first s.last s.count s.frames r t m.0 sp.0 sp.1 sp.2 m.1;
      spare = ap (λ z. s.spare + z) (kind ∙ ap cells_for (sym (length-text s.bytes.items (places links hs t) (head hs t).length))) ∙ ap (λ p. p.spare + cells_of (page_at s.bytes.items links hs t)) v;
      region = ap (λ p. p.region) v;
    }
