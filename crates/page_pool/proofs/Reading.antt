-- What the calls that read a page find.
use Rattle.std.proofs.Common.{◌≡◌, ◌≢◌, ℕ, zero, suc, ◌+◌, ◌*◌, ◌/◌, ◌%◌, ◌<◌, ◌≤◌, Bool, true, false, cond, ◌==◌, List, [], ◌∷◌, ◌++◌, map, length, get_or, refl, sym, ◌∙◌, ap, subst, arith}
use Rattle.std.specs.Prelude.{slice_index}
use Rattle.std.specs.Option.{is_some}
use Rattle.std.specs.List.{filter, find}
use Rattle.std.proofs.Common.{Option, None, Some, IsSome}
use Rattle.page_text.specs.declared.limits.TheConstants.{LONGEST_TEXT}
use Rattle.page_pool.proofs.Peers.{times-filter}
use Rattle.std.proofs.Math.Dec.{eqb-suc-zero}
use Rattle.std.proofs.lemmas.List.{map-append}
use Rattle.std.proofs.lemmas.List.FromFn.{get_or-map-range_with_len}
use Rattle.page_pool.specs.Cells.{cells_for, cells_of}
use Rattle.page_pool.specs.Chain.{first_or, walk, times, cell_behind}
use Rattle.page_pool.specs.Pool.{Live, Pool, Names, IsLive, live_in_frame}
use Rattle.page_pool.specs.Layout.{NONE, head, of_frame, ends, places, link_of, cells_from, byte_at, text_in_cells, entry}
use Rattle.page_pool.specs.Region.{view_of, PoolHolds}
use Rattle.page_pool.specs.declared.heads.Head.{Head}
use Rattle.page_pool.specs.declared.pool.Pool.TheInside.{Inside}
use Rattle.page_pool.proofs.Chains.{times-append, times-self, splits, get_or-walk}
use Rattle.page_pool.proofs.Texts.{fits-short}
use Rattle.page_pool.proofs.Named.{Split, map_split, length-text}
use Rattle.page_pool.proofs.Facts as facts
use Rattle.page_pool.proofs.Taking.{read_head}

-- a shorter walk has no cell more often
pub times-walk : (f : ℕ → ℕ) (x j n c : ℕ) → j ≤ n → times x (walk f j c) ≤ times x (walk f n c)
times-walk f x zero n c h = omega arith
times-walk f x (suc j) zero c h = absurd (omega (arith, h))
times-walk f x (suc j) (suc n) c h = let r = times-walk f x j n (f c) (omega (arith, h)) in omega (arith, r)

-- what is counted as there is there
some_times : (n : ℕ) → cond (n == 0) false true ≡ true → 0 < n
some_times zero e = absurd (cc)
some_times (suc n) e = omega arith

-- what is there is counted so
not_zero : (n : ℕ) → 0 < n → cond (n == 0) false true ≡ true
not_zero zero k = absurd (omega (arith, k))
not_zero (suc n) k = rw (eqb-suc-zero n) refl

-- the first of a list stands in it
first_in : (xs : List ℕ) (c : ℕ) → 0 < length xs → c ≡ first_or xs NONE → 0 < times c xs
first_in [] c k e = absurd (omega (arith, k))
first_in (x ∷ xs) c k e = subst (λ z. 0 < times z (x ∷ xs)) (sym e) (times-self x xs)

-- a list of no length is empty
no_length : (xs : List ℕ) → length xs ≡ 0 → xs ≡ []
no_length [] e = refl
no_length (x ∷ xs) e = absurd (omega (arith, e))

-- none is found where none passes
find_none : (g : ℕ → Live) (p : Live → Bool) (xs : List ℕ) → filter (λ c. p (g c)) xs ≡ [] → find p (map g xs) ≡ None
find_none g p [] e = refl
find_none g p (x ∷ xs) e = elim (p (g x)) as (λ v. cond v (x ∷ filter (λ c. p (g c)) xs) (filter (λ c. p (g c)) xs) ≡ [] → cond v (Some (g x)) (find p (map g xs)) ≡ None) [
  | true ↦ λ h. absurd (cc)
  | false ↦ λ h. find_none g p xs h
] e

-- the first that passes is found
find_some : (g : ℕ → Live) (p : Live → Bool) (xs : List ℕ) (c : ℕ) (r : List ℕ) → filter (λ d. p (g d)) xs ≡ c ∷ r → find p (map g xs) ≡ Some (g c)
find_some g p [] c r e = absurd (cc)
find_some g p (x ∷ xs) c r e = elim (p (g x)) as (λ v. cond v (x ∷ filter (λ d. p (g d)) xs) (filter (λ d. p (g d)) xs) ≡ c ∷ r → cond v (Some (g x)) (find p (map g xs)) ≡ Some (g c)) [
  | true ↦ λ h. (let q : x ≡ c = cc in ap (λ z. Some (g z)) q)
  | false ↦ λ h. find_some g p xs c r h
] e

-- a value is there where the test says so
is_some_of : {X : Type 0} (o : Option X) → is_some o ≡ true → IsSome o
is_some_of None h = absurd (cc)
is_some_of (Some x) h = refl

module _ (s : Inside) (r : PoolHolds s) (w : Pool) (v : view_of s ≡ w) where
  -- the heads
  abbrev pub hs : List Head
  hs = s.heads.items

  -- the links
  abbrev pub links : List ℕ
  links = s.links.items

  -- the live page whose head stands at a cell
  abbrev pub at : ℕ → Live
  at = entry s.bytes.items links hs

  -- the live pages are those of the order
  pub live_is : w.live ≡ map at r.order
  live_is = sym (ap (λ p. p.live) v) ∙ ap (map at) (facts.order_is s.bytes.items links hs s.free s.spare s.first s.last s.count s.frames r)

  -- a cell of the order is a ticket
  pub names_of : (t : ℕ) → 0 < times t r.order → Names w t (at t)
  names_of t k =
      let p = splits t r.order k in
      record { before = map at p.0; after = map at p.1; is = live_is ∙ ap (map at) p.2 ∙ map-append at p.0 (t ∷ p.1); ticket = refl }

  -- the first page is live
  pub oldest : 0 < s.count → IsLive w s.first
  oldest k = let a : 0 < times s.first r.order = first_in r.order s.first (omega (arith, r.count_is, k)) r.first_is in (at s.first, names_of s.first a)

  -- no page is live where none is counted
  pub none : s.count ≡ 0 → w.live ≡ []
  none z = live_is ∙ ap (map at) (no_length r.order (sym r.count_is ∙ z))

  module _ (t name : ℕ) (n : t ≡ name) (e : Live) (nm : Names w name e) where
    -- where the page stands in the order
    split : Split at r.order e
    split = map_split at r.order nm.before e nm.after (sym live_is ∙ nm.is)

    -- its head stands at its ticket
    t_is : split.c ≡ t
    t_is = ap (λ x. x.ticket) split.named ∙ nm.ticket ∙ sym n

    -- it is the page of that head
    pub entry_is : at t ≡ e
    entry_is = ap at (sym t_is) ∙ split.named

    -- its ticket stands in the order
    pub in_order : 0 < times t r.order
    in_order = omega (arith, ap (times t) (split.is ∙ ap (λ z. split.front ++ z ∷ split.back) t_is), times-append t split.front (t ∷ split.back), times-self t split.back)

    -- its ticket is a cell
    pub below : t < length hs
    below = facts.below_order s.bytes.items links hs s.free s.spare s.first s.last s.count s.frames r t in_order

    -- its length
    pub len_is : length e.page.text ≡ (head hs t).length
    len_is = sym (ap (λ x. length x.page.text) entry_is) ∙ length-text s.bytes.items (places links hs t) (head hs t).length

    -- its cells are cells
    pub cells_below : (k : ℕ) → k < cells_for (head hs t).length → (links' : List ℕ) → links' ≡ links → (x : ℕ) → 0 < times x (walk (link_of links') (k + 1) t) → x < length links'
    cells_below k h links' same x j =
        let a = times-walk (link_of links) x (k + 1) (cells_for (head hs t).length) t (omega (arith, h)) in
        let b : times x (walk (link_of links') (k + 1) t) ≡ times x (walk (link_of links) (k + 1) t) = ap (λ z. times x (walk (link_of z) (k + 1) t)) same in
        let d = facts.part s.bytes.items links hs s.free s.spare s.first s.last s.count s.frames r x t in_order in
        let f = facts.below_used s.bytes.items links hs s.free s.spare s.first s.last s.count s.frames r x (omega (arith, a, b, d, j)) in
        omega (arith, f, r.links_cells, ap length same)

    -- all its cells are cells
    pub all_below : (size : ℕ) → size ≡ (head hs t).length → (links' : List ℕ) → links' ≡ links → (x : ℕ) → 0 < times x (cells_from links' t size) → x < length links'
    all_below size size_is links' same x j =
        let a : times x (cells_from links' t size) ≡ times x (places links hs t) = ap (λ z. times x (cells_from z t size)) same ∙ ap (λ z. times x (cells_from links t z)) size_is in
        let d = facts.part s.bytes.items links hs s.free s.spare s.first s.last s.count s.frames r x t in_order in
        let f = facts.below_used s.bytes.items links hs s.free s.spare s.first s.last s.count s.frames r x (omega (arith, a, d, j)) in
        omega (arith, f, r.links_cells, ap length same)

    -- its text lies along them
    pub text_along : (size : ℕ) → size ≡ (head hs t).length → (bytes' links' : List ℕ) → bytes' ≡ s.bytes.items → links' ≡ links
        → text_in_cells bytes' (cells_from links' t size) size ≡ e.page.text
    text_along size size_is bytes' links' same same' =
        ap (λ z. text_in_cells z (cells_from links' t size) size) same ∙ ap (λ z. text_in_cells s.bytes.items (cells_from z t size) size) same'
        ∙ ap (λ z. text_in_cells s.bytes.items (cells_from links t z) z) size_is ∙ ap (λ x. x.page.text) entry_is

    -- its places are counted by its length
    pub place_in : (k : ℕ) → k < cells_of e.page → k < cells_for (head hs t).length
    place_in k h = subst (λ z. k < cells_for z) len_is h

    -- it has no more characters than the limit
    pub short : length e.page.text ≤ LONGEST_TEXT
    short = let f = r.fits t in_order in omega (arith, fits-short (at t).page f, len_is, length-text s.bytes.items (places links hs t) (head hs t).length)

    -- the length that is read at its head
    pub length_read : (h : Head) → h ≡ get_or hs t h → h.length ≡ (head hs t).length
    length_read h e = ap (λ (k : Head). k.length) (read_head hs t h below e)

    -- it fits where as many characters fit
    pub length_fits : (h : Head) → h ≡ get_or hs t h → (room : ℕ) → LONGEST_TEXT ≤ room → h.length ≤ room
    length_fits h e room m = omega (arith, length_read h e, len_is, short, m)

    -- place k is the cell behind k links
    pub place_is : (k : ℕ) → k < cells_for (head hs t).length → (links' : List ℕ) → links' ≡ links → cell_behind (link_of links') k t ≡ slice_index e.places k
    place_is k h links' same = ap (λ z. cell_behind (link_of z) k t) same ∙ sym (get_or-walk (link_of links) (cells_for (head hs t).length) t k 0 h) ∙ ap (λ x. get_or x.places k 0) entry_is

    -- byte i lies at its place
    pub byte_is : (i : ℕ) → i < length e.page.text → slice_index e.page.text i ≡ get_or s.bytes.items (32 * slice_index e.places (i / 32) + i % 32) 0
    byte_is i h =
        let a : get_or (text_in_cells s.bytes.items (places links hs t) (head hs t).length) i 0 ≡ byte_at s.bytes.items (places links hs t) i =
        get_or-map-range_with_len (byte_at s.bytes.items (places links hs t)) 0 (head hs t).length i i 0 (omega (arith, h, len_is)) (omega arith) in
        sym (ap (λ x. get_or x.page.text i 0) entry_is) ∙ a ∙ ap (λ x. byte_at s.bytes.items x.places i) entry_is

  -- no page of the frame is found where its chain is empty
  pub no_first : (f : ℕ) → f < 8 → (ends s.frames f).first ≡ NONE → find (live_in_frame f) w.live ≡ None
  no_first f l n = ap (find (live_in_frame f)) live_is ∙ find_none at (live_in_frame f) r.order
      (elim (filter (of_frame hs f) r.order) as (λ xs. filter (of_frame hs f) r.order ≡ xs → xs ≡ []) [
        | [] ↦ λ e. refl
        | c ∷ xs ↦ λ e. absurd (let q : NONE ≡ c = sym n ∙ (r.peers f l).first_is ∙ ap (λ z. first_or z NONE) e in
            let k : 0 < times c r.order = omega (arith, times-filter (of_frame hs f) c r.order, ap (times c) e, times-self c xs) in
            omega (arith, q, facts.below_order s.bytes.items links hs s.free s.spare s.first s.last s.count s.frames r c k, r.most))
      ] refl)

  -- the first page of the frame is the first of its chain
  pub some_first : (f : ℕ) → f < 8 → (ends s.frames f).first ≢ NONE → find (live_in_frame f) w.live ≡ Some (at (ends s.frames f).first)
  some_first f l ne = ap (find (live_in_frame f)) live_is ∙
      (elim (filter (of_frame hs f) r.order) as (λ xs. filter (of_frame hs f) r.order ≡ xs → find (live_in_frame f) (map at r.order) ≡ Some (at (ends s.frames f).first)) [
        | [] ↦ λ e. absurd (ne ((r.peers f l).first_is ∙ ap (λ z. first_or z NONE) e))
        | c ∷ xs ↦ λ e. find_some at (live_in_frame f) r.order c xs e ∙ ap (λ z. Some (at z)) (sym ((r.peers f l).first_is ∙ ap (λ z. first_or z NONE) e))
      ] refl)

  -- a head with an address is that of a live page
  pub live_yes : (t : ℕ) → t < length hs → is_some (head hs t).address ≡ true → IsLive w t
  live_yes t l h = let k : 0 < times t r.order = some_times (times t r.order) (sym (r.live t l) ∙ h) in (at t, names_of t k)

  -- the head of a live page has an address
  pub live_no : (t name : ℕ) → t ≡ name → IsLive w name → is_some (head hs t).address ≡ true
  live_no t name n l = let k = in_order t name n l.0 l.1 in r.live t (below t name n l.0 l.1) ∙ not_zero (times t r.order) k

  -- a live page has an address
  pub address_is : (t name : ℕ) → t ≡ name → IsLive w name → IsSome (head hs t).address
  address_is t name n l = is_some_of (head hs t).address (live_no t name n l)
