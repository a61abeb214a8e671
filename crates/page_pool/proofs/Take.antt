-- A page is taken out.
use Rattle.std.proofs.Common.{◌≡◌, ◌≢◌, ℕ, suc, ◌+◌, ◌-◌, ◌<◌, ◌≤◌, true, false, cond, ◌==◌, inl, inr, List, [], ◌∷◌, ◌++◌, map, length, reverse, refl, sym, ◌∙◌, ap, subst, arith, eq-eqb, length-append, append_assoc}
use Rattle.std.proofs.lemmas.Bool.{eqb-true}
use Rattle.std.proofs.lemmas.Bool.Decides.{leb_tells, eqb_tells}
use Rattle.std.proofs.lemmas.List.{length-set, get_or-set_same, get_or-set_other, reverse-append, reverse-reverse, map-append}
use Rattle.std.proofs.lemmas.Grind.{flat_map-append}
use Rattle.std.proofs.lemmas.List.Elements.{filter-append}
use Rattle.page_pool.proofs.Peers.{ends_without, stays, leaves, before_is as before_is', after_is as after_is'', times-filter, filter-pass, filter-same, first_in, not_eqb}
use Rattle.std.specs.List.{filter}
use Rattle.std.specs.Prelude.{slice_set}
use mathlib.Core.List.{reverse-cons}
use Rattle.page_pool.specs.Cells.{FitsPage, cells_for}
use Rattle.page_pool.specs.Chain.{first_or, Chain, walk, times, cell_behind}
use Rattle.codeword.specs.Capcodes.{frame_of}
use Rattle.std.specs.Option.{is_some}
use Rattle.page_pool.specs.Layout.{capcode_in, NONE, head, before_of, after_of, peer_before, peer_after, of_frame, ends, Linked, link_of, places, page_at, entry, used, unlinked, IsRegion}
use Rattle.page_pool.specs.declared.heads.Head.{Head}
use Rattle.page_pool.specs.declared.heads.Ends.{Ends}
use Rattle.page_pool.proofs.Chains.{times-append, times-one, times-other, times-reverse, times-part, apart, chain_same, chain_rest, chain_join, chain_end, unlink, walk_is, walk_more, length-walk, flat_map-same, map-same}
use Rattle.page_pool.proofs.Writes.{Fixed, unlinked-fixed, unlinked-peer_after_other, unlinked-peer_after_at, unlinked-peer_before_other, unlinked-peer_before_at, unlinked-after_other, unlinked-after_at, unlinked-before_other, unlinked-before_at, length-unlinked, unlinked-live_other, unlinked-live_at}
use Rattle.page_pool.proofs.Facts as facts
use Rattle.page_pool.proofs.Facts.{link-same, link-other, page-same, entry-same, places-same, own}

module _ (bytes links : List ℕ) (hs : List Head) (free spare first last count : ℕ) (frames : List Ends) (r : IsRegion bytes links hs free spare first last count frames)
    (t m : ℕ) (front back : List ℕ) (split : r.order ≡ front ++ t ∷ back) (size : cells_for (head hs t).length ≡ suc m) where
  -- the links before
  abbrev pub f : ℕ → ℕ
  f = link_of links

  -- the cells of the page
  abbrev pub mine : List ℕ
  mine = places links hs t

  -- the last of them
  abbrev pub end : ℕ
  end = cell_behind f m t

  -- the links after
  abbrev pub links' : List ℕ
  links' = slice_set links end free

  -- the heads after
  abbrev pub hs' : List Head
  hs' = unlinked hs t

  -- how often a cell stands in the order and in what the pages use
  in_order : (x : ℕ) → times x r.order ≡ times x (front ++ back) + times x (t ∷ [])
  in_order x = ap (times x) split ∙ times-append x front (t ∷ back) ∙ omega (arith, times-append x front back)

  -- how often a cell is used
  in_used : (x : ℕ) → times x (used links hs r.order) ≡ times x (used links hs (front ++ back)) + times x mine
  in_used x =
      let a : used links hs r.order ≡ used links hs front ++ (mine ++ used links hs back) = ap (used links hs) split ∙ flat_map-append (places links hs) front (t ∷ back) in
      let b : times x (used links hs (front ++ back)) ≡ times x (used links hs front) + times x (used links hs back) = ap (times x) (flat_map-append (places links hs) front back) ∙ times-append x (used links hs front) (used links hs back) in
      let d = times-append x (used links hs front) (mine ++ used links hs back) in
      let e = times-append x mine (used links hs back) in
      ap (times x) a ∙ omega (arith, b, d, e)

  -- no cell is both used and spare
  pub one : (x : ℕ) → times x (used links hs r.order) + times x r.unused ≤ 1
  one = facts.one bytes links hs free spare first last count frames r

  -- the cells of the page, the last one apart
  pub mine_is : mine ≡ walk f m t ++ end ∷ []
  mine_is = ap (λ n. walk f n t) size ∙ walk_more f m t

  -- the last cell is one of the page
  end_mine : 0 < times end mine
  end_mine = omega (arith, ap (times end) mine_is, times-append end (walk f m t) (end ∷ []), times-one end)

  -- it is a cell
  pub end_below : end < length hs
  end_below = facts.below_used bytes links hs free spare first last count frames r end (omega (arith, in_used end, end_mine))

  -- it leads to the free chain
  link_at : link_of links' end ≡ free
  link_at = link-same links end free (omega (arith, end_below, r.links_cells))

  -- all other links stay
  link_else : (x : ℕ) → x ≢ end → link_of links' x ≡ f x
  link_else x ne = link-other links end free x ne

  -- the other pages are of the order
  kept : (c : ℕ) → 0 < times c (front ++ back) → 0 < times c r.order
  kept c k = omega (arith, in_order c, k)

  -- no other page has the last cell
  end_else : (c : ℕ) → 0 < times c (front ++ back) → times end (places links hs c) ≡ 0
  end_else c k = let p = times-part (places links hs) end c (front ++ back) k in omega (arith, p, one end, in_used end, end_mine)

  -- their heads stand elsewhere
  stays_other : (c : ℕ) → 0 < times c (front ++ back) → c ≢ t
  stays_other c k = apart t c (front ++ back) (omega (arith, in_order t, facts.one_order bytes links hs free spare first last count frames r t, times-one t)) k

  -- they keep their cells
  places_kept : (c : ℕ) → 0 < times c (front ++ back) → places links' hs' c ≡ places links hs c
  places_kept c k = places-same links links' hs hs' c (unlinked-fixed hs t c (stays_other c k)) (λ x j. link_else x (apart end x (places links hs c) (end_else c k) j))

  -- they stay
  page_kept : (c : ℕ) → 0 < times c (front ++ back) → page_at bytes links' hs' c ≡ page_at bytes links hs c
  page_kept c k = page-same bytes bytes links links' hs hs' c (unlinked-fixed hs t c (stays_other c k)) (places_kept c k) refl

  -- so do their entries
  pub entry_kept : (c : ℕ) → 0 < times c (front ++ back) → entry bytes links' hs' c ≡ entry bytes links hs c
  entry_kept c k = entry-same bytes bytes links links' hs hs' c (page_kept c k) (places_kept c k)

  -- the page is of the order
  pub t_order : 0 < times t r.order
  t_order = omega (arith, in_order t, times-one t)

  -- its head stands at a cell
  pub t_below : t < length hs
  t_below = facts.below_order bytes links hs free spare first last count frames r t t_order

  -- no two heads stand at one cell
  one_order : (x : ℕ) → times x r.order ≤ 1
  one_order = facts.one_order bytes links hs free spare first last count frames r

  -- the end is no head
  none_order : times NONE r.order ≡ 0
  none_order = facts.none_order bytes links hs free spare first last count frames r

  -- the order turned round
  turned : reverse r.order ≡ reverse back ++ t ∷ reverse front
  turned = ap reverse split ∙ reverse-append front (t ∷ back) ∙ ap (λ l. l ++ reverse front) (reverse-cons t back) ∙ append_assoc (reverse back) (t ∷ []) (reverse front)

  -- the order without the page, turned round
  turned_back : reverse (front ++ back) ≡ reverse back ++ reverse front
  turned_back = reverse-append front back

  -- the order, onward
  onward : Chain (after_of hs) (front ++ t ∷ back) NONE
  onward = subst (λ l. Chain (after_of hs) l NONE) split r.onward

  -- the order, backward
  backward : Chain (before_of hs) (reverse back ++ t ∷ reverse front) NONE
  backward = subst (λ l. Chain (before_of hs) l NONE) turned r.backward

  -- the page after it
  after_is : (head hs t).after ≡ first_or back NONE
  after_is = (chain_rest (after_of hs) front (t ∷ back) NONE onward).0

  -- the page before it
  before_is : (head hs t).before ≡ first_or (reverse front) NONE
  before_is = (chain_rest (before_of hs) (reverse back) (t ∷ reverse front) NONE backward).0

  -- the other heads stand at cells
  below' : (x : ℕ) → 0 < times x (front ++ back) → x < length hs
  below' x k = facts.below_order bytes links hs free spare first last count frames r x (kept x k)

  -- the order without the page, onward
  onward' : Chain (after_of hs') (front ++ back) NONE
  onward' = unlink (after_of hs) (after_of hs') front t back NONE onward
      (λ c. omega (arith, in_order c, one_order c)) (omega (arith, in_order NONE, none_order))
      (λ c k ne. unlinked-after_other hs t c (λ e. ne (e ∙ before_is)))
      (λ k. let k' : 0 < times (head hs t).before (front ++ back) = subst (λ z. 0 < times z (front ++ back)) (sym before_is) k in
      subst (λ z. after_of hs' z ≡ after_of hs t) before_is (unlinked-after_at hs t (below' (head hs t).before k')))

  -- how often a head stands in it turned round
  times_turned : (x : ℕ) → times x (reverse back ++ reverse front) ≡ times x (front ++ back)
  times_turned x = ap (times x) (sym turned_back) ∙ times-reverse x (front ++ back)

  -- the last of the turned list
  back_is : first_or (reverse (reverse back)) NONE ≡ (head hs t).after
  back_is = ap (λ l. first_or l NONE) (reverse-reverse back) ∙ sym after_is

  -- the order without the page, backward
  backward' : Chain (before_of hs') (reverse (front ++ back)) NONE
  backward' = subst (λ l. Chain (before_of hs') l NONE) (sym turned_back)
      (unlink (before_of hs) (before_of hs') (reverse back) t (reverse front) NONE backward
      (λ c. omega (arith, in_order c, one_order c, times_turned c)) (omega (arith, in_order NONE, none_order, times_turned NONE))
      (λ c k ne. unlinked-before_other hs t c (λ e. ne (e ∙ sym back_is)))
      (λ k. let k' : 0 < times (head hs t).after (front ++ back) = subst (λ n. 0 < n) (times_turned (head hs t).after) (subst (λ z. 0 < times z (reverse back ++ reverse front)) back_is k) in
      subst (λ z. before_of hs' z ≡ before_of hs t) (sym back_is) (unlinked-before_at hs t (below' (head hs t).after k'))))

  -- the first page after
  abbrev pub first' : ℕ
  first' = cond (first == t) (head hs t).after first

  -- the last page after
  abbrev pub last' : ℕ
  last' = cond (last == t) (head hs t).before last

  -- it is the first of the order
  first_is' : first' ≡ first_or (front ++ back) NONE
  first_is' = ends_without t front back first (head hs t).after (r.first_is ∙ ap (λ l. first_or l NONE) split) after_is (λ c k. apart t c front (omega (arith, in_order t, one_order t, times-one t, times-append t front back)) k)

  -- it is the last of the order
  last_is' : last' ≡ first_or (reverse (front ++ back)) NONE
  last_is' = ends_without t (reverse back) (reverse front) last (head hs t).before (r.last_is ∙ ap (λ l. first_or l NONE) turned) before_is
      (λ c k. apart t c (reverse back) (omega (arith, times-reverse t back, in_order t, one_order t, times-one t, times-append t front back)) k)
      ∙ ap (λ l. first_or l NONE) (sym turned_back)

  -- the freed cells lead into the spare ones
  mine_chain : Chain f (walk f m t ++ end ∷ []) NONE
  mine_chain = subst (λ l. Chain f l NONE) mine_is (r.chains t t_order)

  -- the last cell is not among those before it
  end_front : times end (walk f m t) ≡ 0
  end_front = omega (arith, ap (times end) mine_is, times-append end (walk f m t) (end ∷ []), times-one end, one end, in_used end)

  -- it was not spare
  end_unused : times end r.unused ≡ 0
  end_unused = omega (arith, one end, in_used end, end_mine)

  -- the free chain after
  free_chain' : Chain (link_of links') (mine ++ r.unused) NONE
  free_chain' = chain_join (link_of links') mine r.unused NONE
      (subst (λ l. Chain (link_of links') l (first_or r.unused NONE)) (sym mine_is)
      (chain_end f (link_of links') (walk f m t) end NONE (first_or r.unused NONE) mine_chain (λ c k. link_else c (apart end c (walk f m t) end_front k)) (link_at ∙ r.free_is)))
      (chain_same f (link_of links') r.unused NONE (λ c k. link_else c (apart end c r.unused end_unused k)) r.free_chain)

  -- it begins at the page
  free_is' : t ≡ first_or (mine ++ r.unused) NONE
  free_is' = ap (λ l. first_or (l ++ r.unused) NONE) (sym (own links hs t).1)

  -- so many cells are spare
  spare_is' : spare + suc m ≡ length (mine ++ r.unused)
  spare_is' = omega (arith, r.spare_is, length-append mine r.unused, length-walk f (cells_for (head hs t).length) t, size)

  -- the other pages use their cells
  used_kept : used links' hs' (front ++ back) ≡ used links hs (front ++ back)
  used_kept = flat_map-same (places links hs) (places links' hs') (front ++ back) places_kept

  -- each cell stands in the chains as often as before
  all_kept : (x : ℕ) → times x (used links' hs' (front ++ back) ++ (mine ++ r.unused)) ≡ times x (used links hs r.order ++ r.unused)
  all_kept x = omega (arith, times-append x (used links' hs' (front ++ back)) (mine ++ r.unused), times-append x mine r.unused, ap (times x) used_kept, in_used x, times-append x (used links hs r.order) r.unused)

  -- which heads have an address
  live' : (x : ℕ) → x < length hs' → is_some (head hs' x).address ≡ cond (times x (front ++ back) == 0) false true
  live' x l = elim (eqb_tells x t) [
    | inl e ↦ let z : times x (front ++ back) ≡ 0 = omega (arith, in_order x, one_order x, ap (λ v. times x (v ∷ [])) (sym e.1), times-one x) in
        ap (λ v. is_some (head hs' v).address) e.1 ∙ unlinked-live_at hs t t_below ∙ sym (ap (λ n. cond (n == 0) false true) z)
    | inr ne ↦ let z : times x r.order ≡ times x (front ++ back) = omega (arith, in_order x, times-other x t ne.1) in
        unlinked-live_other hs t x ne.1 ∙ r.live x (omega (arith, l, length-unlinked hs t)) ∙ ap (λ n. cond (n == 0) false true) z
  ]

  -- one page less is counted
  count_is' : count - 1 ≡ length (front ++ back)
  count_is' = omega (arith, r.count_is, ap length split, length-append front (t ∷ back), length-append front back)

  -- there are as many heads
  cells_same : length hs' ≡ length hs
  cells_same = length-unlinked hs t

  -- the pages of another frame, in two parts
  other_list : (i : ℕ) → (i ≡ frame_of (capcode_in (head hs t).address) → ⊥) → filter (of_frame hs i) r.order ≡ filter (of_frame hs i) front ++ filter (of_frame hs i) back
  other_list i ne = ap (filter (of_frame hs i)) split ∙ filter-append (of_frame hs i) front (t ∷ back)
      ∙ ap (λ v. filter (of_frame hs i) front ++ cond v (t ∷ filter (of_frame hs i) back) (filter (of_frame hs i) back)) (not_eqb (frame_of (capcode_in (head hs t).address)) i (λ e. ne (sym e)))

  -- the frame of the page, and the ends of its chain without the page
  abbrev pub mate : ℕ
  mate = frame_of (capcode_in (head hs t).address)

  -- the ends of the chains of frames after
  abbrev pub frames' : List Ends
  frames' = slice_set frames mate (record { first = cond ((ends frames mate).first == t) (head hs t).peer_after (ends frames mate).first; last = cond ((ends frames mate).last == t) (head hs t).peer_before (ends frames mate).last })

  -- the pages of a frame in a list
  abbrev old_in : ℕ → List ℕ → List ℕ
  old_in i = filter (of_frame hs i)

  -- the chain of its frame, with the page
  abbrev mates : Type 0
  mates = Linked (peer_after hs) (peer_before hs) (old_in mate front ++ t ∷ old_in mate back) (ends frames mate).first (ends frames mate).last

  -- the pages of its frame
  mate_list : old_in mate r.order ≡ old_in mate front ++ t ∷ old_in mate back
  mate_list = ap (old_in mate) split ∙ filter-append (of_frame hs mate) front (t ∷ back) ∙ ap (λ v. old_in mate front ++ cond v (t ∷ old_in mate back) (old_in mate back)) (eq-eqb mate mate refl)

  -- they are a chain
  mate_chain : mates
  mate_chain = subst (λ l. Linked (peer_after hs) (peer_before hs) l (ends frames mate).first (ends frames mate).last) mate_list (r.peers mate (omega arith))

  -- none of them stands twice
  one_mate : (c : ℕ) → times c (old_in mate front ++ t ∷ old_in mate back) ≤ 1
  one_mate c = omega (arith, ap (times c) mate_list, times-filter (of_frame hs mate) c r.order, one_order c)

  -- the end is none of them
  none_mate : times NONE (old_in mate front ++ t ∷ old_in mate back) ≡ 0
  none_mate = omega (arith, ap (times NONE) mate_list, times-filter (of_frame hs mate) NONE r.order, none_order)

  -- the other pages of a frame are among the other pages
  in_frame_order : (i c : ℕ) → 0 < times c (old_in i front ++ old_in i back) → 0 < times c (front ++ back)
  in_frame_order i c k = omega (arith, times-append c (old_in i front) (old_in i back), times-append c front back, times-filter (of_frame hs i) c front, times-filter (of_frame hs i) c back, k)

  -- they are of the frame
  in_frame_pass : (i c : ℕ) → 0 < times c (old_in i front ++ old_in i back) → of_frame hs i c ≡ true
  in_frame_pass i c k = elim (leb_tells 1 (times c (old_in i front))) [
    | inl h ↦ filter-pass (of_frame hs i) c front (omega (arith, h.1))
    | inr h ↦ filter-pass (of_frame hs i) c back (omega (arith, h.1, k, times-append c (old_in i front) (old_in i back)))
  ]

  -- the page before it in its frame
  peer_before_is : (head hs t).peer_before ≡ first_or (reverse (old_in mate front)) NONE
  peer_before_is = before_is' (peer_after hs) (peer_before hs) (peer_after hs) (peer_before hs) (old_in mate front) t (old_in mate back) (ends frames mate).first (ends frames mate).last mate_chain one_mate none_mate

  -- the page after it in its frame
  peer_after_is : (head hs t).peer_after ≡ first_or (old_in mate back) NONE
  peer_after_is = after_is'' (peer_after hs) (peer_before hs) (peer_after hs) (peer_before hs) (old_in mate front) t (old_in mate back) (ends frames mate).first (ends frames mate).last mate_chain one_mate none_mate

  -- a page of another frame is no neighbour of this one
  no_mate : (i c z : ℕ) → (i ≡ mate → ⊥) → 0 < times c (old_in i front ++ old_in i back) → (xs : List ℕ) → z ≡ first_or xs NONE → ((d : ℕ) → 0 < times d xs → of_frame hs mate d ≡ true) → c ≢ z
  no_mate i c z ne k xs e pass same = elim (first_in xs NONE) [
    | inl n ↦ (let a : 0 < times NONE (front ++ back) = subst (λ v. 0 < times v (front ++ back)) (same ∙ e ∙ n) (in_frame_order i c k) in omega (arith, a, in_order NONE, none_order))
    | inr h ↦ ne (sym (eqb-true _ _ (in_frame_pass i c k)) ∙ eqb-true _ _ (ap (of_frame hs mate) (same ∙ e) ∙ pass (first_or xs NONE) h))
  ]

  -- the pages of a frame after
  frame_kept : (i : ℕ) → filter (of_frame hs' i) (front ++ back) ≡ old_in i front ++ old_in i back
  frame_kept i = filter-same (of_frame hs i) (of_frame hs' i) (front ++ back) (λ c k. ap (λ (z : Fixed). frame_of (capcode_in z.address) == i) (unlinked-fixed hs t c (stays_other c k))) ∙ filter-append (of_frame hs i) front back

  -- the chains of frames after
  peers' : (i : ℕ) → i < 8 → Linked (peer_after hs') (peer_before hs') (filter (of_frame hs' i) (front ++ back)) (ends frames' i).first (ends frames' i).last
  peers' i l = subst (λ z. Linked (peer_after hs') (peer_before hs') z (ends frames' i).first (ends frames' i).last) (sym (frame_kept i))
      (elim (eqb_tells i mate) [
        | inl e ↦
            let done : Linked (peer_after hs') (peer_before hs') (old_in mate front ++ old_in mate back) (cond ((ends frames mate).first == t) (head hs t).peer_after (ends frames mate).first) (cond ((ends frames mate).last == t) (head hs t).peer_before (ends frames mate).last) =
            leaves (peer_after hs) (peer_before hs) (peer_after hs') (peer_before hs') (old_in mate front) t (old_in mate back) (ends frames mate).first (ends frames mate).last mate_chain one_mate none_mate
            (λ c k ne. unlinked-peer_after_other hs t c ne) (λ k. unlinked-peer_after_at hs t (below' (head hs t).peer_before (in_frame_order mate (head hs t).peer_before k)))
            (λ c k ne. unlinked-peer_before_other hs t c ne) (λ k. unlinked-peer_before_at hs t (below' (head hs t).peer_after (in_frame_order mate (head hs t).peer_after k))) in
            let is : ends frames' i ≡ record { first = cond ((ends frames mate).first == t) (head hs t).peer_after (ends frames mate).first; last = cond ((ends frames mate).last == t) (head hs t).peer_before (ends frames mate).last } =
            ap (ends frames') e.1 ∙ get_or-set_same frames mate _ _ (omega (arith, r.frames_are)) in
            rw (is, e.1) done
        | inr ne ↦
            let is : ends frames' i ≡ ends frames i = get_or-set_other frames mate i _ _ ne.1 in
            let old : Linked (peer_after hs) (peer_before hs) (old_in i front ++ old_in i back) (ends frames i).first (ends frames i).last =
            subst (λ z. Linked (peer_after hs) (peer_before hs) z (ends frames i).first (ends frames i).last) (other_list i ne.1) (r.peers i l) in
            rw is (stays (peer_after hs) (peer_before hs) (peer_after hs') (peer_before hs') (old_in i front ++ old_in i back) (ends frames i).first (ends frames i).last
            (λ c k. unlinked-peer_after_other hs t c (no_mate i c (head hs t).peer_before ne.1 k (reverse (old_in mate front)) peer_before_is (λ d h. filter-pass (of_frame hs mate) d front (omega (arith, h, times-reverse d (old_in mate front))))))
            (λ c k. unlinked-peer_before_other hs t c (no_mate i c (head hs t).peer_after ne.1 k (old_in mate back) peer_after_is (λ d h. filter-pass (of_frame hs mate) d back h)))
            old)
      ])

  -- how many cells stood in the chains
  long_old : length (used links hs r.order ++ r.unused) ≡ length (used links hs front) + (length mine + (length (used links hs back) + length r.unused))
  long_old =
      let a : used links hs r.order ≡ used links hs front ++ (mine ++ used links hs back) = ap (used links hs) split ∙ flat_map-append (places links hs) front (t ∷ back) in
      omega (arith, length-append (used links hs r.order) r.unused, ap length a, length-append (used links hs front) (mine ++ used links hs back), length-append mine (used links hs back))

  -- how many cells stand in them
  long_new : length (used links' hs' (front ++ back) ++ (mine ++ r.unused)) ≡ length (used links hs front) + (length mine + (length (used links hs back) + length r.unused))
  long_new =
      let a : used links' hs' (front ++ back) ≡ used links hs front ++ used links hs back = used_kept ∙ flat_map-append (places links hs) front back in
      omega (arith, length-append (used links' hs' (front ++ back)) (mine ++ r.unused), ap length a, length-append (used links hs front) (used links hs back), length-append mine r.unused)

  -- the region without the page
  pub taken : IsRegion bytes links' hs' t (spare + suc m) first' last' (count - 1) frames'
  taken = record {
    order = front ++ back;
    unused = mine ++ r.unused;
    onward = onward';
    backward = backward';
    first_is = first_is';
    last_is = last_is';
    count_is = count_is';
    frames_are = length-set frames mate _ ∙ r.frames_are;
    peers = peers';
    free_chain = free_chain';
    free_is = free_is';
    spare_is = spare_is';
    chains = λ c k. subst (λ l. Chain (link_of links') l NONE) (sym (places_kept c k))
        (chain_same f (link_of links') (places links hs c) NONE (λ x j. link_else x (apart end x (places links hs c) (end_else c k) j)) (r.chains c (kept c k)));
    once = λ x l. all_kept x ∙ r.once x (omega (arith, l, cells_same));
    within = λ x l. all_kept x ∙ r.within x (omega (arith, l, cells_same));
    total = omega (arith, r.total, cells_same, long_new, long_old);
    live = live';
    fits = λ c k. subst FitsPage (sym (page_kept c k)) (r.fits c (kept c k));
    links_cells = length-set links end free ∙ r.links_cells ∙ sym cells_same;
    bytes_cells = omega (arith, r.bytes_cells, cells_same);
    some = omega (arith, r.some, cells_same);
    most = omega (arith, r.most, cells_same);
  }

  -- the live pages before
  pub was : map (entry bytes links hs) (walk (after_of hs) count first) ≡ map (entry bytes links hs) front ++ entry bytes links hs t ∷ map (entry bytes links hs) back
  was = ap (map (entry bytes links hs)) (facts.order_is bytes links hs free spare first last count frames r ∙ split) ∙ map-append (entry bytes links hs) front (t ∷ back)

  -- the live pages after
  pub left : map (entry bytes links' hs') (walk (after_of hs') (count - 1) first') ≡ map (entry bytes links hs) front ++ map (entry bytes links hs) back
  left = ap (map (entry bytes links' hs')) (ap (λ n. walk (after_of hs') n first') count_is' ∙ ap (walk (after_of hs') (length (front ++ back))) first_is' ∙ walk_is (after_of hs') (front ++ back) NONE onward')
      ∙ map-same (entry bytes links hs) (entry bytes links' hs') (front ++ back) entry_kept ∙ map-append (entry bytes links hs) front back

  -- its cells are cells
  pub mine_below : (x : ℕ) → 0 < times x mine → x < length links
  mine_below x k = let b = facts.below_used bytes links hs free spare first last count frames r x (omega (arith, in_used x, k)) in omega (arith, b, r.links_cells)

  -- at most 65,536 cells are spare
  pub spare_fits : spare + suc m ≤ 65536
  spare_fits = omega (arith, r.total, r.most, long_old, r.spare_is, length-walk f (cells_for (head hs t).length) t, size)

  -- a page was counted
  pub counted : 0 < count
  counted = omega (arith, r.count_is, ap length split, length-append front (t ∷ back))
