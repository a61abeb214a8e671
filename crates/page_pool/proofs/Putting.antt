-- `put`, over the fields of a pool.
use Rattle.std.proofs.Common.{◌≡◌, ℕ, suc, ◌+◌, ◌-◌, ◌*◌, ◌<◌, ◌≤◌, cond, ◌==◌, List, [], ◌∷◌, ◌++◌, map, length, get_or, take, drop, refl, sym, ◌∙◌, ap, arith, length-append}
use Rattle.std.specs.Prelude.{slice_set, Some}
use Rattle.codeword.specs.declared.functions.Function.{Function}
use Rattle.codeword.specs.Capcodes.{frame_of}
use Rattle.std.specs.List.{flat_map}
use Rattle.std.proofs.lemmas.List.{take-append-drop}
use Rattle.page_pool.specs.Cells.{FitsPage, cells_for}
use Rattle.page_pool.specs.Chain.{walk, times, cell_behind}
use Rattle.page_pool.specs.Pool.{Pool, PutsPage, page}
use Rattle.page_pool.specs.Layout.{NONE, ends, after_of, places, link_of, text_in_cells, entry, linked, used, IsRegion}
use Rattle.page_pool.specs.Region.{view_of, PoolHolds}
use Rattle.page_pool.specs.declared.heads.Head.{Head}
use Rattle.page_pool.specs.declared.heads.Ends.{Ends}
use Rattle.page_pool.specs.declared.pool.Pool.TheInside.{Inside}
use Rattle.page_pool.proofs.Chains.{times-append, times-self, times-one, walk_take, walk_more}
use Rattle.page_pool.proofs.Texts.{cells_for-suc}
use Rattle.page_pool.proofs.Facts as facts
use Rattle.page_pool.proofs.Facts.{own}
use Rattle.page_pool.proofs.Put as put

-- a region over equal fields
pub region-same : (bytes B links L : List ℕ) (hs H : List Head) (free F spare S first A last count : ℕ) (frames R : List Ends)
    → B ≡ bytes → L ≡ links → H ≡ hs → F ≡ free → S ≡ spare → A ≡ first → R ≡ frames
    → IsRegion bytes links hs free spare first last count frames → IsRegion B L H F S A last count R
region-same bytes B links L hs H free F spare S first A last count frames R e0 e1 e2 e3 e4 e5 e6 r = rw (e0, e1, e2, e3, e4, e5, e6) r

-- there are no more pages than cells in use
firsts_fit : (h : ℕ → List ℕ) (xs : List ℕ) → ((c : ℕ) → (r : List ℕ) × (h c ≡ c ∷ r)) → length xs ≤ length (flat_map h xs)
firsts_fit h [] own = omega arith
firsts_fit h (c ∷ xs) own = omega (arith, length-append (h c) (flat_map h xs), ap length (own c).1, firsts_fit h xs own)

module _ (s : Inside) (r : PoolHolds s) (n k : ℕ) (kind : k ≡ cells_for n) (room : k ≤ s.spare) (links' : List ℕ) (same : links' ≡ s.links.items) where
  -- the page takes one cell and so many more
  pub m : (j : ℕ) × (cells_for n ≡ suc j)
  m = cells_for-suc n

  -- the links before
  abbrev pub f : ℕ → ℕ
  f = link_of s.links.items

  -- its cells are spare ones
  mine_part : (x : ℕ) → times x (walk f (suc m.0) s.free) ≤ times x r.unused
  mine_part x =
      let a : walk f (suc m.0) s.free ≡ take (suc m.0) r.unused = ap (walk f (suc m.0)) r.free_is ∙ walk_take f (suc m.0) r.unused NONE (omega (arith, r.spare_is, room, kind, m.1)) r.free_chain in
      let b : times x r.unused ≡ times x (take (suc m.0) r.unused) + times x (drop (suc m.0) r.unused) = ap (times x) (sym (take-append-drop (suc m.0) r.unused)) ∙ times-append x (take (suc m.0) r.unused) (drop (suc m.0) r.unused) in
      omega (arith, ap (times x) a, b)

  -- its cells, as the code finds them
  walk_is : walk (link_of links') (cells_for n) s.free ≡ walk f (suc m.0) s.free
  walk_is = ap (λ z. walk (link_of z) (cells_for n) s.free) same ∙ ap (λ j. walk f j s.free) m.1

  -- they are cells
  pub cells_below : (x : ℕ) → 0 < times x (walk (link_of links') (cells_for n) s.free) → x < length links'
  cells_below x h = omega (arith, ap length same, r.links_cells, facts.below_unused s.bytes.items s.links.items s.heads.items s.free s.spare s.first s.last s.count s.frames r x (omega (arith, h, ap (times x) walk_is, mine_part x)))

  -- none of them stands twice
  pub apart : (x : ℕ) → times x (walk (link_of links') (cells_for n) s.free) ≤ 1
  apart x = omega (arith, ap (times x) walk_is, mine_part x, facts.one s.bytes.items s.links.items s.heads.items s.free s.spare s.first s.last s.count s.frames r x)

  -- the last of them
  pub end_is : (end : ℕ) → end ≡ cell_behind (link_of links') (cells_for n - 1) s.free → end ≡ cell_behind f m.0 s.free
  end_is end h = let a : cells_for n - 1 ≡ m.0 = omega (arith, m.1) in h ∙ ap (λ j. cell_behind (link_of links') j s.free) a ∙ ap (λ z. cell_behind (link_of z) m.0 s.free) same

  -- it is a cell
  pub end_below : (end : ℕ) → end ≡ cell_behind (link_of links') (cells_for n - 1) s.free → end < length links'
  end_below end h =
      let a : times end (walk f (suc m.0) s.free) ≡ times end (walk f m.0 s.free) + times end (cell_behind f m.0 s.free ∷ []) = ap (times end) (walk_more f m.0 s.free) ∙ times-append end (walk f m.0 s.free) (cell_behind f m.0 s.free ∷ []) in
      let b : times end (cell_behind f m.0 s.free ∷ []) ≡ 1 = ap (λ z. times end (z ∷ [])) (sym (end_is end h)) ∙ times-one end in
      cells_below end (omega (arith, a, b, ap (times end) walk_is))

  -- the first of them is a cell
  pub free_below : s.free < length s.heads.items
  free_below = facts.below_unused s.bytes.items s.links.items s.heads.items s.free s.spare s.first s.last s.count s.frames r s.free (omega (arith, mine_part s.free, times-self s.free (walk f m.0 (f s.free))))

-- there are at most 65,536 pages
pub counted : (s : Inside) (r : PoolHolds s) → s.count ≤ 65536
counted s r = omega (arith, r.count_is, r.total, r.most, firsts_fit (places s.links.items s.heads.items) r.order (own s.links.items s.heads.items), length-append (used s.links.items s.heads.items r.order) r.unused)

module _ (s : Inside) (r : PoolHolds s) (w : Pool) (v : view_of s ≡ w) (capcode : ℕ) (function : Function) (frame : ℕ) (frame_is : frame ≡ frame_of capcode) (t : List ℕ) (fits : FitsPage (page capcode function t))
    (k : ℕ) (kind : k ≡ cells_for (length t)) (room : k ≤ s.spare) (l0 : List ℕ) (same0 : l0 ≡ s.links.items)
    (b0 bytes' B : List ℕ) (b0_is : b0 ≡ s.bytes.items) (same_size : length bytes' ≡ length b0)
    (written : text_in_cells bytes' (walk (link_of l0) (cells_for (length t)) s.free) (length t) ≡ t)
    (others : (q : ℕ) → times q (walk (link_of l0) (cells_for (length t)) s.free) ≡ 0 → (j : ℕ) → j < 32 → get_or bytes' (32 * q + j) 0 ≡ get_or b0 (32 * q + j) 0)
    (end : ℕ) (end_found : end ≡ cell_behind (link_of l0) (cells_for (length t) - 1) s.free) (l2 L : List ℕ) (F : ℕ) (same2 : l2 ≡ s.links.items) (F_is : F ≡ link_of l2 end)
    (H : List Head) (A : ℕ)
    (B_is : B ≡ bytes') (L_is : L ≡ slice_set s.links.items end NONE)
    (H_from : H ≡ linked s.heads.items s.free (record { address = Some (record { capcode = capcode; function = function }); length = length t; before = s.last; after = NONE; peer_before = (ends s.frames frame).last; peer_after = NONE }))
    (A_is : A ≡ cond (s.first == NONE) s.free s.first) (R : List Ends) (a : ℕ) (R_from : R ≡ slice_set s.frames frame (record { first = a; last = s.free }))
    (a_from : a ≡ cond ((ends s.frames frame).first == NONE) s.free (ends s.frames frame).first) where
  -- the head of the page
  abbrev pub hd : Head
  hd = record { address = Some (record { capcode = capcode; function = function }); length = length t; before = s.last; after = NONE; peer_before = (ends s.frames (frame_of capcode)).last; peer_after = NONE }

  -- the heads, with the frame of its capcode
  H_is : H ≡ linked s.heads.items s.free hd
  H_is = H_from ∙ ap (λ f. linked s.heads.items s.free (record { address = Some (record { capcode = capcode; function = function }); length = length t; before = s.last; after = NONE; peer_before = (ends s.frames f).last; peer_after = NONE })) frame_is

  -- the ends of frames, with that frame
  R_is : R ≡ slice_set s.frames (frame_of capcode) (record { first = a; last = s.free })
  R_is = R_from ∙ ap (λ f. slice_set s.frames f (record { first = a; last = s.free })) frame_is

  -- the first of that frame
  a_is : a ≡ cond ((ends s.frames (frame_of capcode)).first == NONE) s.free (ends s.frames (frame_of capcode)).first
  a_is = a_from ∙ ap (λ f. cond ((ends s.frames f).first == NONE) s.free (ends s.frames f).first) frame_is

  -- the page takes one cell and so many more
  abbrev pub j : (i : ℕ) × (cells_for (length t) ≡ suc i)
  j = m s r (length t) k kind room l0 same0

  -- its last cell
  last : end ≡ cell_behind (link_of s.links.items) j.0 s.free
  last = end_is s r (length t) k kind room l0 same0 end end_found

  -- its cells
  cells0 : walk (link_of l0) (cells_for (length t)) s.free ≡ walk (link_of s.links.items) (suc j.0) s.free
  cells0 = ap (λ z. walk (link_of z) (cells_for (length t)) s.free) same0 ∙ ap (λ i. walk (link_of s.links.items) i s.free) j.1

  -- no byte more or less
  size' : length bytes' ≡ length s.bytes.items
  size' = same_size ∙ ap length b0_is

  -- the bytes of other cells
  others' : (q : ℕ) → times q (walk (link_of s.links.items) (suc j.0) s.free) ≡ 0 → (i : ℕ) → i < 32 → get_or bytes' (32 * q + i) 0 ≡ get_or s.bytes.items (32 * q + i) 0
  others' q none i h = others q (ap (times q) cells0 ∙ none) i h ∙ ap (λ z. get_or z (32 * q + i) 0) b0_is

  -- its text
  written' : text_in_cells bytes' (walk (link_of s.links.items) (suc j.0) s.free) (length t) ≡ t
  written' = ap (λ z. text_in_cells bytes' z (length t)) (sym cells0) ∙ written

  -- its cells were spare
  room' : suc j.0 ≤ s.spare
  room' = omega (arith, room, kind, j.1)

  -- the links after
  L_is' : L ≡ slice_set s.links.items (cell_behind (link_of s.links.items) j.0 s.free) NONE
  L_is' = L_is ∙ ap (λ z. slice_set s.links.items z NONE) last

  -- the free chain after
  F_is' : F ≡ link_of s.links.items (cell_behind (link_of s.links.items) j.0 s.free)
  F_is' = F_is ∙ ap (λ z. link_of z end) same2 ∙ ap (link_of s.links.items) last

  -- the invariant after `put`
  pub holds : IsRegion B L H F (s.spare - k) A s.free (s.count + 1) R
  holds =
      let S : s.spare - k ≡ s.spare - suc j.0 = ap (λ z. s.spare - z) (kind ∙ j.1) in
      region-same bytes' B _ L _ H _ F _ (s.spare - k) _ A s.free (s.count + 1) _ R B_is L_is' H_is F_is' S A_is (R_is ∙ ap (λ z. slice_set s.frames (frame_of capcode) (record { first = z; last = s.free })) a_is)
      (put.added s.bytes.items s.links.items s.heads.items s.free s.spare s.first s.last s.count s.frames r bytes' hd j.0 j.1 room' refl refl refl refl refl size' others' t written' fits)

  -- the page was added
  pub meets : (let new : Pool = record { live = map (entry B L H) (walk (after_of H) (s.count + 1) A); spare = s.spare - k; region = B } in PutsPage w new (page capcode function t))
  meets =
      let L' : List ℕ = slice_set s.links.items (cell_behind (link_of s.links.items) j.0 s.free) NONE in
      let H' : List Head = linked s.heads.items s.free hd in
      record {
        entry = entry bytes' L' H' s.free;
        is = put.page_new s.bytes.items s.links.items s.heads.items s.free s.spare s.first s.last s.count s.frames r bytes' hd j.0 j.1 room' refl refl refl refl refl size' others' t written' fits;
        at_end = ap (λ z. map (entry z L H) (walk (after_of H) (s.count + 1) A)) B_is
            ∙ ap (λ z. map (entry bytes' z H) (walk (after_of H) (s.count + 1) A)) L_is'
            ∙ ap (λ z. map (entry bytes' L' z) (walk (after_of z) (s.count + 1) A)) H_is
            ∙ ap (λ z. map (entry bytes' L' H') (walk (after_of H') (s.count + 1) z)) A_is
            ∙ put.longer s.bytes.items s.links.items s.heads.items s.free s.spare s.first s.last s.count s.frames r bytes' hd j.0 j.1 room' refl refl refl refl refl size' others' t written' fits
            ∙ ap (λ p. p.live ++ entry bytes' L' H' s.free ∷ []) v;
        spare = let a : s.spare - k + cells_for (length t) ≡ s.spare = omega (arith, room, kind) in a ∙ ap (λ p. p.spare) v;
      }
