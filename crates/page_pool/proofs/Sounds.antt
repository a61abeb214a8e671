-- What holds in every pool.
use Rattle.std.proofs.Common.{◌≡◌, ℕ, ◌+◌, ◌*◌, ◌/◌, ◌%◌, List, [], ◌∷◌, ◌++◌, map, length, get_or, refl, sym, ◌∙◌, ap, subst, arith, length-append}
use Rattle.std.specs.Prelude.{slice_index}
use Rattle.page_pool.specs.Cells.{FitsPage, cells_for, cells_of}
use Rattle.page_pool.specs.Chain.{times}
use Rattle.page_pool.specs.Pool.{Live, Pool, Names, in_use, cells, places_of, Lies, Sound}
use Rattle.page_pool.specs.Layout.{head, places, link_of, page_at, entry, used}
use Rattle.page_pool.specs.Region.{view_of, PoolHolds}
use Rattle.page_pool.specs.declared.heads.Head.{Head}
use Rattle.page_pool.specs.declared.pool.Pool.TheInside.{Inside}
use Rattle.page_pool.proofs.Chains.{length-walk}
use Rattle.page_pool.proofs.Named.{length-text}
use Rattle.page_pool.proofs.Facts as facts
use Rattle.page_pool.proofs.Reading as reading

-- the places of the live pages are the cells in use
places-map : (bytes links : List ℕ) (hs : List Head) (xs : List ℕ) → places_of (map (entry bytes links hs) xs) ≡ used links hs xs
places-map bytes links hs [] = refl
places-map bytes links hs (c ∷ xs) = ap (λ l. places links hs c ++ l) (places-map bytes links hs xs)

-- their tickets are the order
tickets-map : (bytes links : List ℕ) (hs : List Head) (xs : List ℕ) → map (λ (e : Live). e.ticket) (map (entry bytes links hs) xs) ≡ xs
tickets-map bytes links hs [] = refl
tickets-map bytes links hs (c ∷ xs) = ap (λ l. c ∷ l) (tickets-map bytes links hs xs)

-- so many cells are in use
in_use-map : (bytes links : List ℕ) (hs : List Head) (xs : List ℕ) → in_use (map (entry bytes links hs) xs) ≡ length (used links hs xs)
in_use-map bytes links hs [] = refl
in_use-map bytes links hs (c ∷ xs) =
    let a : cells_of (page_at bytes links hs c) ≡ cells_for (head hs c).length = ap cells_for (length-text bytes (places links hs c) (head hs c).length) in
    omega (arith, a, length-append (places links hs c) (used links hs xs), length-walk (link_of links) (cells_for (head hs c).length) c, in_use-map bytes links hs xs)

module _ (s : Inside) (r : PoolHolds s) (w : Pool) (v : view_of s ≡ w) where
  -- the cells of the making
  all_is : cells w ≡ length s.heads.items
  all_is =
      let a : in_use w.live ≡ length (used s.links.items s.heads.items r.order) = ap in_use (reading.live_is s r w v) ∙ in_use-map s.bytes.items s.links.items s.heads.items r.order in
      omega (arith, a, sym (ap (λ p. p.spare) v), r.spare_is, r.total, length-append (used s.links.items s.heads.items r.order) r.unused)

  -- the places of all live pages
  places_are : places_of w.live ≡ used s.links.items s.heads.items r.order
  places_are = ap places_of (reading.live_is s r w v) ∙ places-map s.bytes.items s.links.items s.heads.items r.order

  -- each live page lies in its cells
  lies : (t : ℕ) (e : Live) → Names w t e → Lies w e
  lies t e n =
      let is = reading.entry_is s r w v t t refl e n in
      record {
        fits = subst (λ (x : Live). FitsPage x.page) is (r.fits t (reading.in_order s r w v t t refl e n));
        size = sym (ap (λ x. length x.places) is) ∙ length-walk (link_of s.links.items) (cells_for (head s.heads.items t).length) t ∙ ap cells_for (sym (reading.len_is s r w v t t refl e n));
        byte = λ i h. reading.byte_is s r w v t t refl e n i h ∙ ap (λ p. get_or p.region (32 * slice_index e.places (i / 32) + i % 32) 0) v;
      }

  -- what holds in every pool
  pub sound : Sound w
  sound = record {
    tickets = λ t. omega (arith, ap (λ l. times t (map (λ (e : Live). e.ticket) l)) (reading.live_is s r w v), ap (times t) (tickets-map s.bytes.items s.links.items s.heads.items r.order), facts.one_order s.bytes.items s.links.items s.heads.items s.free s.spare s.first s.last s.count s.frames r t);
    pages = lies;
    below = λ x k. omega (arith, all_is, facts.below_used s.bytes.items s.links.items s.heads.items s.free s.spare s.first s.last s.count s.frames r x (omega (arith, k, ap (times x) places_are)));
    apart = λ x. omega (arith, ap (times x) places_are, facts.one s.bytes.items s.links.items s.heads.items s.free s.spare s.first s.last s.count s.frames r x);
    some = omega (arith, all_is, r.some);
    most = omega (arith, all_is, r.most);
    whole = omega (arith, ap (λ p. length p.region) v, r.bytes_cells, all_is);
  }
