-- A page is added.
use Rattle.std.proofs.Common.{◌≡◌, ◌≢◌, ℕ, suc, ◌+◌, ◌-◌, ◌*◌, ◌<◌, ◌≤◌, true, false, cond, ◌==◌, inl, inr, List, [], ◌∷◌, ◌++◌, map, length, reverse, get_or, take, drop, refl, sym, ◌∙◌, ap, subst, arith, eq-eqb, length-append, append_assoc}
use Rattle.std.proofs.lemmas.Bool.{eqb-true}
use Rattle.std.proofs.lemmas.Bool.Decides.{leb_tells, eqb_tells}
use Rattle.std.proofs.lemmas.List.{length-set, get_or-set_same, get_or-set_other, reverse-append, map-append, take-append-drop, length-drop, append-nil}
use Rattle.std.proofs.lemmas.Grind.{flat_map-append}
use Rattle.std.proofs.lemmas.List.Elements.{filter-append}
use Rattle.page_pool.proofs.Peers.{starts, stays, joins, times-filter, filter-pass, filter-same, first_in, not_eqb}
use Rattle.std.specs.List.{filter}
use Rattle.std.specs.Prelude.{slice_set}
use Rattle.page_text.specs.Page.{Page}
use Rattle.page_pool.specs.Cells.{FitsPage, cells_for}
use Rattle.page_pool.specs.Chain.{first_or, Chain, walk, times, cell_behind}
use Rattle.codeword.specs.Capcodes.{frame_of}
use Rattle.std.specs.Option.{is_some}
use Rattle.page_pool.specs.Layout.{capcode_in, function_in, NONE, head, before_of, after_of, peer_before, peer_after, of_frame, ends, Linked, link_of, places, page_at, text_in_cells, entry, used, linked, IsRegion}
use Rattle.page_pool.specs.declared.heads.Head.{Head}
use Rattle.page_pool.specs.declared.heads.Ends.{Ends}
use Rattle.page_pool.proofs.Chains.{times-append, times-self, times-one, times-other, times-reverse, apart, last_is, chain_same, chain_first, chain_rest, chain_end, link_end, walk_is, walk_take, walk_more, length-walk, flat_map-same, map-same}
use Rattle.page_pool.proofs.Writes.{Fixed, fixed, linked-fixed_other, linked-fixed_at, linked-live_other, linked-live_at, linked-before_other, linked-before_at, linked-after_other, linked-after_last, linked-after_at, length-linked, linked-peer_before_other, linked-peer_before_at, linked-peer_after_other, linked-peer_after_last, linked-peer_after_at}
use Rattle.page_pool.proofs.Texts.{text-same}
use Rattle.page_pool.proofs.Facts as facts
use Rattle.page_pool.proofs.Facts.{link-same, link-other, page-same, entry-same, places-same, own}

-- a list without its own first is empty
first_none : (xs : List ℕ) → times (first_or (reverse xs) NONE) xs ≡ 0 → first_or (reverse xs) NONE ≡ NONE
first_none xs z = elim (reverse xs) as (λ l. reverse xs ≡ l → first_or l NONE ≡ NONE) [
  | [] ↦ λ e. refl
  | x ∷ l ↦ λ e. absurd (let a : times (first_or (reverse xs) NONE) xs ≡ times x xs = ap (λ k. times (first_or k NONE) xs) e in
      let b : times x (reverse xs) ≡ times x (x ∷ l) = ap (times x) e in omega (arith, z, a, b, times-reverse x xs, times-self x l))
] refl

module _ (bytes links : List ℕ) (hs : List Head) (free spare first last count : ℕ) (frames : List Ends) (r : IsRegion bytes links hs free spare first last count frames)
    (bytes' : List ℕ) (h : Head) (m : ℕ) (size : cells_for h.length ≡ suc m) (room : suc m ≤ spare)
    (lives : is_some h.address ≡ true) (before_is : h.before ≡ last) (after_is : h.after ≡ NONE)
    (peer_before_is : h.peer_before ≡ (ends frames (frame_of (capcode_in h.address))).last) (peer_after_is : h.peer_after ≡ NONE) (same_size : length bytes' ≡ length bytes)
    (others : (k : ℕ) → times k (walk (link_of links) (suc m) free) ≡ 0 → (j : ℕ) → j < 32 → get_or bytes' (32 * k + j) 0 ≡ get_or bytes (32 * k + j) 0)
    (t : List ℕ) (written : text_in_cells bytes' (walk (link_of links) (suc m) free) h.length ≡ t)
    (fits : let q : Page = record { capcode = capcode_in h.address; function = function_in h.address; text = t } in FitsPage q) where
  -- the links before
  abbrev pub f : ℕ → ℕ
  f = link_of links

  -- the cells that the page takes: the first of the free chain
  abbrev pub mine : List ℕ
  mine = walk f (suc m) free

  -- the cells that stay spare
  abbrev pub rest : List ℕ
  rest = drop (suc m) r.unused

  -- the last cell of the page
  abbrev pub end : ℕ
  end = cell_behind f m free

  -- the links after
  abbrev pub links' : List ℕ
  links' = slice_set links end NONE

  -- the heads after
  abbrev pub hs' : List Head
  hs' = linked hs free h

  -- the cells are the front of the free chain
  mine_take : mine ≡ take (suc m) r.unused
  mine_take = ap (walk f (suc m)) r.free_is ∙ walk_take f (suc m) r.unused NONE (omega (arith, r.spare_is, room)) r.free_chain

  -- the free chain is the cells of the page and the rest
  unused_is : r.unused ≡ mine ++ rest
  unused_is = sym (take-append-drop (suc m) r.unused) ∙ ap (λ l. l ++ rest) (sym mine_take)

  -- the cells of the page, the last one apart
  mine_is : mine ≡ walk f m free ++ end ∷ []
  mine_is = walk_more f m free

  -- how often a cell is spare
  in_unused : (x : ℕ) → times x r.unused ≡ times x mine + times x rest
  in_unused x = ap (times x) unused_is ∙ times-append x mine rest

  -- no cell is both used and spare
  one : (x : ℕ) → times x (used links hs r.order) + times x r.unused ≤ 1
  one = facts.one bytes links hs free spare first last count frames r

  -- the last cell is one of the page
  end_mine : 0 < times end mine
  end_mine = omega (arith, ap (times end) mine_is, times-append end (walk f m free) (end ∷ []), times-one end)

  -- the first cell is one of the page
  free_mine : 0 < times free mine
  free_mine = times-self free (walk f m (f free))

  -- the last cell is a cell
  end_below : end < length hs
  end_below = facts.below_unused bytes links hs free spare first last count frames r end (omega (arith, in_unused end, end_mine))

  -- the first cell is a cell
  free_below : free < length hs
  free_below = facts.below_unused bytes links hs free spare first last count frames r free (omega (arith, in_unused free, free_mine))

  -- the first cell is not the end
  free_not : free ≢ NONE
  free_not e = let z : free < length hs = free_below in let z' : NONE < length hs = subst (λ v. v < length hs) e z in omega (arith, z', r.most)

  -- no page had its head at the first cell
  free_new : times free r.order ≡ 0
  free_new = omega (arith, facts.firsts bytes links hs free spare first last count frames r free, one free, in_unused free, free_mine)

  -- the heads of the other pages stand elsewhere
  old_order : (c : ℕ) → 0 < times c r.order → c ≢ free
  old_order c k = apart free c r.order free_new k

  -- the last cell leads to the end
  link_at : link_of links' end ≡ NONE
  link_at = link-same links end NONE (omega (arith, end_below, r.links_cells))

  -- all other links stay
  link_else : (x : ℕ) → x ≢ end → link_of links' x ≡ f x
  link_else x ne = link-other links end NONE x ne

  -- the free chain before
  chain : Chain f (mine ++ rest) NONE
  chain = subst (λ l. Chain f l NONE) unused_is r.free_chain

  -- the first cell of the rest
  next_is : f end ≡ first_or rest NONE
  next_is = (chain_rest f (walk f m free) (end ∷ rest) NONE (subst (λ l. Chain f l NONE) (ap (λ l. l ++ rest) mine_is ∙ append_assoc (walk f m free) (end ∷ []) rest) chain)).0

  -- the last cell is not among those before it
  end_front : times end (walk f m free) ≡ 0
  end_front = omega (arith, ap (times end) mine_is, times-append end (walk f m free) (end ∷ []), times-one end, one end, in_unused end)

  -- the last cell is not in the rest
  end_rest : times end rest ≡ 0
  end_rest = omega (arith, one end, in_unused end, end_mine)

  -- the cells of the page are a chain
  mine_chain : Chain (link_of links') mine NONE
  mine_chain = subst (λ l. Chain (link_of links') l NONE) (sym mine_is)
      (chain_end f (link_of links') (walk f m free) end (first_or rest NONE) NONE (subst (λ l. Chain f l (first_or rest NONE)) mine_is (chain_first f mine rest NONE chain))
      (λ c k. link_else c (apart end c (walk f m free) end_front k)) link_at)

  -- the rest is a chain
  rest_chain : Chain (link_of links') rest NONE
  rest_chain = chain_same f (link_of links') rest NONE (λ c k. link_else c (apart end c rest end_rest k)) (chain_rest f mine rest NONE chain)

  -- no page had the last cell
  end_else : (c : ℕ) → 0 < times c r.order → times end (places links hs c) ≡ 0
  end_else c k = let p = facts.part bytes links hs free spare first last count frames r end c k in omega (arith, p, one end, in_unused end, end_mine)

  -- the heads of other pages keep address and length
  fixed_kept : (c : ℕ) → 0 < times c r.order → fixed (head hs' c) ≡ fixed (head hs c)
  fixed_kept c k = linked-fixed_other hs free h c (old_order c k)

  -- other pages keep their cells
  places_kept : (c : ℕ) → 0 < times c r.order → places links' hs' c ≡ places links hs c
  places_kept c k = places-same links links' hs hs' c (fixed_kept c k) (λ x j. link_else x (apart end x (places links hs c) (end_else c k) j))

  -- other pages keep their texts
  text_kept : (c : ℕ) → 0 < times c r.order → text_in_cells bytes' (places links hs c) (head hs c).length ≡ text_in_cells bytes (places links hs c) (head hs c).length
  text_kept c k = text-same bytes bytes' (places links hs c) (head hs c).length
      (λ x j i l. others x (let p = facts.part bytes links hs free spare first last count frames r x c k in omega (arith, p, one x, in_unused x, j)) i l)
      (length-walk f (cells_for (head hs c).length) c)

  -- other pages stay
  page_kept : (c : ℕ) → 0 < times c r.order → page_at bytes' links' hs' c ≡ page_at bytes links hs c
  page_kept c k = page-same bytes bytes' links links' hs hs' c (fixed_kept c k) (places_kept c k) (text_kept c k)

  -- so do their entries
  pub entry_kept : (c : ℕ) → 0 < times c r.order → entry bytes' links' hs' c ≡ entry bytes links hs c
  entry_kept c k = entry-same bytes bytes' links links' hs hs' c (page_kept c k) (places_kept c k)

  -- the new page
  places_new : places links' hs' free ≡ mine
  places_new =
      ap (λ (q : Fixed). walk (link_of links') (cells_for q.length) free) (linked-fixed_at hs free h free_below)
      ∙ ap (λ n. walk (link_of links') n free) (size ∙ sym (length-walk f (suc m) free))
      ∙ walk_is (link_of links') mine NONE mine_chain

  -- the page is the one that was put
  pub page_new : page_at bytes' links' hs' free ≡ (let q : Page = record { capcode = capcode_in h.address; function = function_in h.address; text = t } in q)
  page_new =
      let a = linked-fixed_at hs free h free_below in
      ap (λ (q : Fixed). let p : Page = record { capcode = capcode_in q.address; function = function_in q.address; text = text_in_cells bytes' (places links' hs' free) q.length } in p) a
      ∙ ap (λ (l : List ℕ). let p : Page = record { capcode = capcode_in h.address; function = function_in h.address; text = l } in p) (ap (λ l. text_in_cells bytes' l h.length) places_new ∙ written)

  -- no two heads stand at one cell
  one_order : (x : ℕ) → times x r.order ≤ 1
  one_order = facts.one_order bytes links hs free spare first last count frames r

  -- heads stand at cells
  below_order : (x : ℕ) → 0 < times x r.order → x < length hs
  below_order = facts.below_order bytes links hs free spare first last count frames r

  -- the page before it is the last of the order
  last_or : h.before ≡ first_or (reverse r.order) NONE
  last_or = before_is ∙ r.last_is

  -- it is not its own neighbour
  free_last : free ≢ h.before
  free_last e = elim (leb_tells 1 (times h.before r.order)) [
    | inl k ↦ old_order h.before (omega (arith, k.1)) (sym e)
    | inr k ↦ free_not (e ∙ last_or ∙ first_none r.order (omega (arith, k.1, ap (λ z. times z r.order) last_or)))
  ]

  -- the order with the page, onward
  onward' : Chain (after_of hs') (r.order ++ free ∷ []) NONE
  onward' = link_end (after_of hs) (after_of hs') r.order free NONE r.onward one_order
      (λ c k ne. linked-after_other hs free h c (old_order c k) (λ e. ne (e ∙ last_or)))
      (λ k. subst (λ z. after_of hs' z ≡ free) last_or (linked-after_last hs free h (below_order h.before (subst (λ z. 0 < times z r.order) (sym last_or) k))))
      (linked-after_at hs free h free_below free_last ∙ after_is)

  -- the order turned round
  turned : reverse (r.order ++ free ∷ []) ≡ free ∷ reverse r.order
  turned = reverse-append r.order (free ∷ [])

  -- the order with the page, backward
  backward' : Chain (before_of hs') (reverse (r.order ++ free ∷ [])) NONE
  backward' = subst (λ l. Chain (before_of hs') l NONE) (sym turned) (
    linked-before_at hs free h free_below ∙ last_or,
    chain_same (before_of hs) (before_of hs') (reverse r.order) NONE (λ c k. linked-before_other hs free h c (old_order c (omega (arith, times-reverse c r.order, k)))) r.backward,
  )

  -- the first page after
  abbrev pub first' : ℕ
  first' = cond (first == NONE) free first

  -- it is the first of the order
  first_is' : first' ≡ first_or (r.order ++ free ∷ []) NONE
  first_is' = starts free first r.order r.first_is (λ k e. let z = below_order first k in let z' : NONE < length hs = subst (λ v. v < length hs) e z in omega (arith, z', r.most))

  -- how often a head stands in the order
  in_order : (x : ℕ) → times x (r.order ++ free ∷ []) ≡ times x r.order + times x (free ∷ [])
  in_order x = times-append x r.order (free ∷ [])

  used_new : used links' hs' (r.order ++ free ∷ []) ≡ used links hs r.order ++ (mine ++ [])
  used_new = flat_map-append (places links' hs') r.order (free ∷ [])
      ∙ ap (λ l. l ++ (places links' hs' free ++ [])) (flat_map-same (places links hs) (places links' hs') r.order places_kept)
      ∙ ap (λ l. used links hs r.order ++ (l ++ [])) places_new

  -- each cell stands in the chains as often as before
  all_kept : (x : ℕ) → times x (used links' hs' (r.order ++ free ∷ []) ++ rest) ≡ times x (used links hs r.order ++ r.unused)
  all_kept x = omega (arith, times-append x (used links' hs' (r.order ++ free ∷ [])) rest, ap (times x) used_new, times-append x (used links hs r.order) (mine ++ []), times-append x mine [], in_unused x, times-append x (used links hs r.order) r.unused)

  -- there are as many heads
  cells_same : length hs' ≡ length hs
  cells_same = length-linked hs free h

  -- a page of the longer order is an old one or the new one
  either : (P : ℕ → Type 0) → ((c : ℕ) → 0 < times c r.order → P c) → P free → (c : ℕ) → 0 < times c (r.order ++ free ∷ []) → P c
  either P old new c k = elim (eqb_tells c free) [
    | inl e ↦ subst P (sym e.1) new
    | inr ne ↦ old c (omega (arith, in_order c, k, times-other c free ne.1))
  ]

  -- which heads have an address
  live' : (x : ℕ) → x < length hs' → is_some (head hs' x).address ≡ cond (times x (r.order ++ free ∷ []) == 0) false true
  live' x l = elim (eqb_tells x free) [
    | inl e ↦ let z : times x (r.order ++ free ∷ []) ≡ 1 = omega (arith, in_order x, ap (λ v. times v r.order) e.1, free_new, ap (λ v. times v (free ∷ [])) e.1, times-one free) in
        ap (λ v. is_some (head hs' v).address) e.1 ∙ linked-live_at hs free h free_below ∙ lives ∙ sym (ap (λ n. cond (n == 0) false true) z)
    | inr ne ↦ let z : times x r.order ≡ times x (r.order ++ free ∷ []) = omega (arith, in_order x, times-other x free ne.1) in
        linked-live_other hs free h x ne.1 ∙ r.live x (omega (arith, l, cells_same)) ∙ ap (λ n. cond (n == 0) false true) z
  ]

  -- the frame of the page, and the ends of its chain with the page
  abbrev pub mate : ℕ
  mate = frame_of (capcode_in h.address)

  -- the ends of the chains of frames after
  abbrev pub frames' : List Ends
  frames' = slice_set frames mate (record { first = cond ((ends frames mate).first == NONE) free (ends frames mate).first; last = free })

  -- the pages of a frame before
  abbrev old_in : ℕ → List ℕ
  old_in i = filter (of_frame hs i) r.order

  -- the pages of a frame are among all
  in_frame_order : (i c : ℕ) → 0 < times c (old_in i) → 0 < times c r.order
  in_frame_order i c k = omega (arith, times-filter (of_frame hs i) c r.order, k)

  -- the end is no head
  none_order : times NONE r.order ≡ 0
  none_order = facts.none_order bytes links hs free spare first last count frames r

  -- the page before it in its frame is the last of them
  last_mate : h.peer_before ≡ first_or (reverse (old_in mate)) NONE
  last_mate = peer_before_is ∙ (r.peers mate (omega arith)).last_is

  -- it is not its own neighbour there
  free_mate : free ≢ h.peer_before
  free_mate e = elim (first_in (reverse (old_in mate)) NONE) [
    | inl n ↦ free_not (e ∙ last_mate ∙ n)
    | inr k ↦ old_order h.peer_before (in_frame_order mate h.peer_before (omega (arith, k, ap (λ z. times z (old_in mate)) last_mate, times-reverse (first_or (reverse (old_in mate)) NONE) (old_in mate)))) (sym e)
  ]

  -- no page of another frame is that neighbour
  no_mate : (i c : ℕ) → (i ≡ mate → ⊥) → 0 < times c (old_in i) → c ≢ h.peer_before
  no_mate i c ne k same = elim (first_in (reverse (old_in mate)) NONE) [
    | inl n ↦ (let a : 0 < times NONE r.order = subst (λ v. 0 < times v r.order) (same ∙ last_mate ∙ n) (in_frame_order i c k) in omega (arith, a, none_order))
    | inr j ↦ (let q : 0 < times c (old_in mate) = omega (arith, j, ap (λ z. times z (old_in mate)) (same ∙ last_mate), times-reverse (first_or (reverse (old_in mate)) NONE) (old_in mate)) in
        ne (sym (eqb-true _ _ (filter-pass (of_frame hs i) c r.order k)) ∙ eqb-true _ _ (filter-pass (of_frame hs mate) c r.order q)))
  ]

  -- its frame
  capcode_new : frame_of (capcode_in (head hs' free).address) ≡ mate
  capcode_new = ap (λ (z : Fixed). frame_of (capcode_in z.address)) (linked-fixed_at hs free h free_below)

  -- the pages of a frame after
  frame_kept : (i : ℕ) → filter (of_frame hs' i) (r.order ++ free ∷ []) ≡ old_in i ++ cond (mate == i) (free ∷ []) []
  frame_kept i = filter-append (of_frame hs' i) r.order (free ∷ [])
      ∙ ap (λ l. l ++ cond (of_frame hs' i free) (free ∷ []) []) (filter-same (of_frame hs i) (of_frame hs' i) r.order (λ c k. ap (λ (z : Fixed). frame_of (capcode_in z.address) == i) (fixed_kept c k)))
      ∙ ap (λ z. old_in i ++ cond (z == i) (free ∷ []) []) capcode_new

  -- the chains of frames after
  peers' : (i : ℕ) → i < 8 → Linked (peer_after hs') (peer_before hs') (filter (of_frame hs' i) (r.order ++ free ∷ [])) (ends frames' i).first (ends frames' i).last
  peers' i l = subst (λ z. Linked (peer_after hs') (peer_before hs') z (ends frames' i).first (ends frames' i).last) (sym (frame_kept i))
      (elim (eqb_tells i mate) [
        | inl e ↦
            let old = r.peers mate (omega arith) in
            let done : Linked (peer_after hs') (peer_before hs') (old_in mate ++ free ∷ []) (cond ((ends frames mate).first == NONE) free (ends frames mate).first) free =
            joins (peer_after hs) (peer_before hs) (peer_after hs') (peer_before hs') (old_in mate) free (ends frames mate).first (ends frames mate).last old
            (λ c. omega (arith, times-filter (of_frame hs mate) c r.order, one_order c)) (omega (arith, times-filter (of_frame hs mate) NONE r.order, none_order))
            (λ c k ne. linked-peer_after_other hs free h c (old_order c (in_frame_order mate c k)) (λ q. ne (q ∙ peer_before_is)))
            (λ k. subst (λ z. peer_after hs' z ≡ free) peer_before_is (linked-peer_after_last hs free h (below_order h.peer_before (in_frame_order mate h.peer_before (subst (λ z. 0 < times z (old_in mate)) (sym peer_before_is) k)))))
            (linked-peer_after_at hs free h free_below free_mate ∙ peer_after_is)
            (λ c k. linked-peer_before_other hs free h c (old_order c (in_frame_order mate c k)))
            (linked-peer_before_at hs free h free_below ∙ peer_before_is) in
            let is : ends frames' i ≡ record { first = cond ((ends frames mate).first == NONE) free (ends frames mate).first; last = free } =
            ap (ends frames') e.1 ∙ get_or-set_same frames mate _ _ (omega (arith, r.frames_are)) in
            rw (is, e.1, eq-eqb mate mate refl) done
        | inr ne ↦
            let is : ends frames' i ≡ ends frames i = get_or-set_other frames mate i _ _ ne.1 in
            let none : (mate == i) ≡ false = not_eqb mate i (λ q. ne.1 (sym q)) in
            rw (is, none, append-nil) (stays (peer_after hs) (peer_before hs) (peer_after hs') (peer_before hs') (old_in i) (ends frames i).first (ends frames i).last
            (λ c k. linked-peer_after_other hs free h c (old_order c (in_frame_order i c k)) (no_mate i c ne.1 k))
            (λ c k. linked-peer_before_other hs free h c (old_order c (in_frame_order i c k)))
            (r.peers i l))
      ])

  -- how many cells stood in the chains
  long_old : length (used links hs r.order ++ r.unused) ≡ length (used links hs r.order) + (length mine + length rest)
  long_old = omega (arith, length-append (used links hs r.order) r.unused, ap length unused_is, length-append mine rest)

  -- how many cells stand in them
  long_new : length (used links' hs' (r.order ++ free ∷ []) ++ rest) ≡ length (used links hs r.order) + (length mine + length rest)
  long_new = omega (arith, length-append (used links' hs' (r.order ++ free ∷ [])) rest, ap length used_new, length-append (used links hs r.order) (mine ++ []), length-append mine [])

  -- the region with the page
  pub added : IsRegion bytes' links' hs' (f end) (spare - suc m) first' free (count + 1) frames'
  added = record {
    order = r.order ++ free ∷ [];
    unused = rest;
    onward = onward';
    backward = backward';
    first_is = first_is';
    last_is = sym (last_is r.order free NONE);
    count_is = omega (arith, r.count_is, length-append r.order (free ∷ []));
    frames_are = length-set frames mate _ ∙ r.frames_are;
    peers = peers';
    free_chain = rest_chain;
    free_is = next_is;
    spare_is = omega (arith, r.spare_is, length-drop (suc m) r.unused, room);
    chains = either (λ c. Chain (link_of links') (places links' hs' c) NONE)
        (λ c k. subst (λ l. Chain (link_of links') l NONE) (sym (places_kept c k)) (chain_same f (link_of links') (places links hs c) NONE (λ x j. link_else x (apart end x (places links hs c) (end_else c k) j)) (r.chains c k)))
        (subst (λ l. Chain (link_of links') l NONE) (sym places_new) mine_chain);
    once = λ x l. all_kept x ∙ r.once x (omega (arith, l, cells_same));
    within = λ x l. all_kept x ∙ r.within x (omega (arith, l, cells_same));
    total = omega (arith, r.total, cells_same, long_new, long_old);
    live = live';
    fits = either (λ c. FitsPage (page_at bytes' links' hs' c)) (λ c k. subst FitsPage (sym (page_kept c k)) (r.fits c k)) (subst FitsPage (sym page_new) fits);
    links_cells = length-set links end NONE ∙ r.links_cells ∙ sym cells_same;
    bytes_cells = omega (arith, same_size, r.bytes_cells, cells_same);
    some = omega (arith, r.some, cells_same);
    most = omega (arith, r.most, cells_same);
  }

  -- how many pages there are
  the_count : count + 1 ≡ length (r.order ++ free ∷ [])
  the_count = omega (arith, r.count_is, length-append r.order (free ∷ []))

  -- the live pages are those before and the page
  pub longer : map (entry bytes' links' hs') (walk (after_of hs') (count + 1) first') ≡ map (entry bytes links hs) (walk (after_of hs) count first) ++ entry bytes' links' hs' free ∷ []
  longer =
      ap (map (entry bytes' links' hs')) (ap (λ n. walk (after_of hs') n first') the_count ∙ ap (walk (after_of hs') (length (r.order ++ free ∷ []))) first_is' ∙ walk_is (after_of hs') (r.order ++ free ∷ []) NONE onward')
      ∙ map-append (entry bytes' links' hs') r.order (free ∷ [])
      ∙ ap (λ l. l ++ entry bytes' links' hs' free ∷ []) (map-same (entry bytes links hs) (entry bytes' links' hs') r.order entry_kept ∙ ap (map (entry bytes links hs)) (sym (facts.order_is bytes links hs free spare first last count frames r)))
