-- The live pages of a pool as the pages that wait.
use Rattle.std.proofs.Common.{◌≡◌, ℕ, true, List, [], ◌∷◌, ◌++◌, map, Some, None, refl, sym, ◌∙◌, ap, eqb-true, inl, inr}
use Rattle.std.specs.List.{filter, find}
use Rattle.std.specs.Option.{option_map}
use Rattle.page_text.specs.Page.{Page}
use Rattle.page_pool.specs.Pool.{Live, Pool, Names, TakesPage, TakesFirst, Sound, pages}
use Rattle.page_pool.specs.Pool.{live_in_frame as is_live_in}
use Rattle.page_pool.proofs.Laws.{find_split, found, first_taken}
use Rattle.scheduler.specs.Slots.{frame, in_frame}
use Rattle.scheduler.specs.Plan.{without_first}
use Rattle.scheduler.specs.Sendings.{first_of, IsFirst}
use Rattle.scheduler.proofs.Frames.{true_or_false}

-- the pages of entries
abbrev pages_of : List Live → List Page
pages_of = map (λ (e : Live). e.page)

-- the pages of a frame
filter-pages : (f : ℕ) (es : List Live) → filter (in_frame f) (pages_of es) ≡ pages_of (filter (is_live_in f) es)
filter-pages f [] = refl
filter-pages f (e ∷ es) =
    elim (true_or_false (is_live_in f e)) [
      | inl h ↦ rw h (ap (λ l. e.page ∷ l) (filter-pages f es))
      | inr h ↦ rw h (filter-pages f es)
    ]

-- a first page of a frame, and those of its frame behind it
filter-first : (f : ℕ) (b : List Live) (e : Live) (a : List Live) → filter (is_live_in f) b ≡ [] → is_live_in f e ≡ true
    → filter (in_frame f) (pages_of (b ++ e ∷ a)) ≡ e.page ∷ filter (in_frame f) (pages_of a)
filter-first f [] e a none h = rw h refl
filter-first f (x ∷ b) e a none h =
    elim (true_or_false (is_live_in f x)) [
      | inl y ↦ absurd (let k : filter (is_live_in f) (x ∷ b) ≡ x ∷ filter (is_live_in f) b = rw y refl in cc)
      | inr y ↦ let k : filter (is_live_in f) b ≡ [] = (let z : filter (is_live_in f) (x ∷ b) ≡ filter (is_live_in f) b = rw y refl in sym z ∙ none) in
          rw y (filter-first f b e a k h)
    ]

-- the pages without it
without_first-first : (f : ℕ) (b : List Live) (e : Live) (a : List Live) → filter (is_live_in f) b ≡ [] → is_live_in f e ≡ true
    → without_first f (pages_of (b ++ e ∷ a)) ≡ pages_of (b ++ a)
without_first-first f [] e a none h = rw h refl
without_first-first f (x ∷ b) e a none h =
    elim (true_or_false (is_live_in f x)) [
      | inl y ↦ absurd (let k : filter (is_live_in f) (x ∷ b) ≡ x ∷ filter (is_live_in f) b = rw y refl in cc)
      | inr y ↦ let k : filter (is_live_in f) b ≡ [] = (let z : filter (is_live_in f) (x ∷ b) ≡ filter (is_live_in f) b = rw y refl in sym z ∙ none) in
          rw y (ap (λ l. x.page ∷ l) (without_first-first f b e a k h))
    ]

-- the first page of a frame: the ticket names it, and it is the first that waits in the frame
pub record First (w : Pool) (f t : ℕ) : Type 0 where
  pub entry : Live
  pub names : Names w t entry
  pub more : List Page
  pub first : filter (in_frame f) (pages w) ≡ entry.page ∷ more
  pub is : first_of f w ≡ entry.page
  pub own : frame entry.page ≡ f

pub first-is : (w : Pool) (f t : ℕ) → IsFirst w f t → First w f t
first-is w f t h =
    let e = found f t (find (is_live_in f) w.live) (sym h) in
    let s = find_split (is_live_in f) w.live e.0 e.1 in
    let first : filter (in_frame f) (pages w) ≡ e.0.page ∷ filter (in_frame f) (pages_of s.after) =
    ap (λ l. filter (in_frame f) (pages_of l)) s.is ∙ filter-first f s.before e.0 s.after s.none s.passes in
    record {
      entry = e.0;
      names = record { before = s.before; after = s.after; is = s.is; ticket = e.2 };
      more = filter (in_frame f) (pages_of s.after);
      first = first;
      is = rw first refl;
      own = eqb-true (frame e.0.page) f s.passes;
    }

-- where no ticket is answered, no page of the frame waits
pub none-waits : (w : Pool) (f : ℕ) → None ≡ option_map (λ (e : Live). e.ticket) (find (is_live_in f) w.live) → filter (in_frame f) (pages w) ≡ []
none-waits w f h = none f w.live h
  where
    none : (f : ℕ) (es : List Live) → None ≡ option_map (λ (e : Live). e.ticket) (find (is_live_in f) es) → filter (in_frame f) (pages_of es) ≡ []
    none f [] h = refl
    none f (e ∷ es) h =
        elim (true_or_false (is_live_in f e)) [
          | inl y ↦ absurd (let k : find (is_live_in f) (e ∷ es) ≡ Some e = rw y refl in let z = h ∙ ap (option_map (λ (e : Live). e.ticket)) k in cc)
          | inr y ↦ let k : find (is_live_in f) (e ∷ es) ≡ find (is_live_in f) es = rw y refl in
              rw y (none f es (h ∙ ap (option_map (λ (e : Live). e.ticket)) k))
        ]

-- who takes the first page of a frame leaves the others
pub pages-taken : (old new : Pool) (f t : ℕ) → Sound old → IsFirst old f t → TakesPage old new t → pages new ≡ without_first f (pages old)
pages-taken old new f t sound h k =
    let x = first_taken old new f t sound h k in
    let T : TakesFirst old new f x.0 = x.1 in
    ap pages_of T.left ∙ sym (without_first-first f T.before x.0 T.after T.none_before T.mine) ∙ ap (λ l. without_first f (pages_of l)) (sym T.was)
