-- The pages of a frame, and the pages without the first one of a frame.
use Rattle.std.proofs.Common.{◌≡◌, ℕ, suc, ◌+◌, ◌<◌, Bool, true, false, List, [], ◌∷◌, length, refl, sym, ◌∙◌, ap, subst, arith, eq-eqb, eqb-true, ◌⊎◌, inl, inr}
use Rattle.std.specs.List.{filter, sum_by}
use Rattle.std.specs.List.Sorted.{IsPermutation}
use Rattle.std.proofs.lemmas.List.Sorted.{IsPermutation-refl, IsPermutation-trans, IsPermutation-cons, IsPermutation-middle}
use Rattle.std.proofs.lemmas.List.Sums.{sum_by-cons}
use Rattle.page_text.specs.Page.{Page}
use Rattle.scheduler.specs.Slots.{run, frame, in_frame}
use Rattle.scheduler.specs.Plan.{without_first}

-- a test gives true or false
pub true_or_false : (b : Bool) → (b ≡ true) ⊎ (b ≡ false)
true_or_false true = inl refl
true_or_false false = inr refl

-- a page that passes the test stays
pub filter-yes : (test : Page → Bool) (other : Page) (waiting : List Page) → test other ≡ true
    → filter test (other ∷ waiting) ≡ other ∷ filter test waiting
filter-yes test other waiting h = rw h refl

-- a page that fails it goes
pub filter-no : (test : Page → Bool) (other : Page) (waiting : List Page) → test other ≡ false
    → filter test (other ∷ waiting) ≡ filter test waiting
filter-no test other waiting h = rw h refl

-- a page is of its own frame
pub in_frame-own : (page : Page) → in_frame (frame page) page ≡ true
in_frame-own page = eq-eqb (frame page) (frame page) refl

-- the pages of a page's frame begin with it
pub filter-own : (page : Page) (waiting : List Page)
    → filter (in_frame (frame page)) (page ∷ waiting) ≡ page ∷ filter (in_frame (frame page)) waiting
filter-own page waiting = rw (in_frame-own page) refl

-- a list of which no frame has a page is empty
pub none_left : (waiting : List Page) → ((f : ℕ) → filter (in_frame f) waiting ≡ []) → waiting ≡ []
none_left [] h = refl
none_left (page ∷ waiting) h = let e = filter-own page waiting in let k = h (frame page) in cc

-- the first page that is found in a frame is of it
pub first_in_frame : (f : ℕ) (waiting : List Page) (page : Page) (more : List Page) → filter (in_frame f) waiting ≡ page ∷ more
    → frame page ≡ f
first_in_frame f [] page more e = cc
first_in_frame f (other ∷ waiting) page more e =
    elim (true_or_false (in_frame f other)) [
      | inl h ↦ let k : frame other ≡ f = eqb-true (frame other) f h in let y = filter-yes (in_frame f) other waiting h in
          let s : other ≡ page = cc in ap frame (sym s) ∙ k
      | inr h ↦ first_in_frame f waiting page more (sym (filter-no (in_frame f) other waiting h) ∙ e)
    ]

-- the first page of a frame goes
pub without_first-yes : (g : ℕ) (other : Page) (waiting : List Page) → in_frame g other ≡ true
    → without_first g (other ∷ waiting) ≡ waiting
without_first-yes g other waiting h = rw h refl

-- a page of another frame stays
pub without_first-no : (g : ℕ) (other : Page) (waiting : List Page) → in_frame g other ≡ false
    → without_first g (other ∷ waiting) ≡ other ∷ without_first g waiting
without_first-no g other waiting h = rw h refl

-- the first page of a frame, and the others, are fair to the waiting pages
pub filter-without_first : (f g : ℕ) (waiting : List Page) (page : Page) (more : List Page)
    → filter (in_frame g) waiting ≡ page ∷ more
    → filter (in_frame f) waiting ≡ filter (in_frame f) (page ∷ without_first g waiting)
filter-without_first f g [] page more e = cc
filter-without_first f g (other ∷ waiting) page more e =
    elim (true_or_false (in_frame g other)) [
      | inl h ↦ let y = filter-yes (in_frame g) other waiting h in let s : other ≡ page = cc in
          ap (λ x. filter (in_frame f) (x ∷ waiting)) s
          ∙ ap (λ l. filter (in_frame f) (page ∷ l)) (sym (without_first-yes g other waiting h))
      | inr h ↦
          let e' : filter (in_frame g) waiting ≡ page ∷ more = sym (filter-no (in_frame g) other waiting h) ∙ e in
          let ih : filter (in_frame f) waiting ≡ filter (in_frame f) (page ∷ without_first g waiting) =
          filter-without_first f g waiting page more e' in
          let own : frame page ≡ g = first_in_frame g waiting page more e' in
          swap f g other page waiting (without_first g waiting) h own ih
          ∙ ap (λ l. filter (in_frame f) (page ∷ l)) (sym (without_first-no g other waiting h))
    ]
  where
    swap : (f g : ℕ) (other page : Page) (waiting others : List Page) → in_frame g other ≡ false → frame page ≡ g
        → filter (in_frame f) waiting ≡ filter (in_frame f) (page ∷ others)
        → filter (in_frame f) (other ∷ waiting) ≡ filter (in_frame f) (page ∷ other ∷ others)
    swap f g other page waiting others h own ih =
        elim (true_or_false (in_frame f other)) [
          | inl a ↦ elim (true_or_false (in_frame f page)) [
            | inl b ↦ let i : frame other ≡ f = eqb-true (frame other) f a in let j : frame page ≡ f = eqb-true (frame page) f b in
                let k : in_frame g other ≡ true = eq-eqb (frame other) g (i ∙ sym j ∙ own) in cc
            | inr b ↦ filter-yes (in_frame f) other waiting a ∙ ap (λ l. other ∷ l) (ih ∙ filter-no (in_frame f) page others b)
                ∙ sym (filter-yes (in_frame f) other others a) ∙ sym (filter-no (in_frame f) page (other ∷ others) b)
          ]
          | inr a ↦ filter-no (in_frame f) other waiting a ∙ ih ∙ second f other page others a
        ]
      where
        second : (f : ℕ) (other page : Page) (others : List Page) → in_frame f other ≡ false
            → filter (in_frame f) (page ∷ others) ≡ filter (in_frame f) (page ∷ other ∷ others)
        second f other page others a =
            elim (true_or_false (in_frame f page)) [
              | inl b ↦ filter-yes (in_frame f) page others b ∙ ap (λ l. page ∷ l) (sym (filter-no (in_frame f) other others a))
                  ∙ sym (filter-yes (in_frame f) page (other ∷ others) b)
              | inr b ↦ filter-no (in_frame f) page others b ∙ sym (filter-no (in_frame f) other others a)
                  ∙ sym (filter-no (in_frame f) page (other ∷ others) b)
            ]

-- the first page of a frame, and the others, are the waiting pages
pub IsPermutation-without_first : (g : ℕ) (waiting : List Page) (page : Page) (more : List Page)
    → filter (in_frame g) waiting ≡ page ∷ more → IsPermutation waiting (page ∷ without_first g waiting)
IsPermutation-without_first g [] page more e = cc
IsPermutation-without_first g (other ∷ waiting) page more e =
    elim (true_or_false (in_frame g other)) [
      | inl h ↦ let y = filter-yes (in_frame g) other waiting h in let s : other ≡ page = cc in
          let k : other ∷ waiting ≡ page ∷ without_first g (other ∷ waiting) = ap (λ x. x ∷ waiting) s
          ∙ ap (λ l. page ∷ l) (sym (without_first-yes g other waiting h)) in
          subst (IsPermutation (other ∷ waiting)) k (IsPermutation-refl (other ∷ waiting))
      | inr h ↦
          let ih = IsPermutation-without_first g waiting page more (sym (filter-no (in_frame g) other waiting h) ∙ e) in
          let k : page ∷ other ∷ without_first g waiting ≡ page ∷ without_first g (other ∷ waiting) =
          ap (λ l. page ∷ l) (sym (without_first-no g other waiting h)) in
          subst (IsPermutation (other ∷ waiting)) k
          (IsPermutation-trans _ _ _ (IsPermutation-cons other _ _ ih) (IsPermutation-middle (other ∷ []) page (without_first g waiting)))
    ]

-- the length of a page's run
abbrev pub size : Page → ℕ
size page = length (run page)

-- a run has its address word
pub run_size : (page : Page) → 0 < length (run page)
unfolding run
run_size page = omega arith

-- without the first page of a frame, one page fewer waits
pub length-without_first : (g : ℕ) (waiting : List Page) (page : Page) (more : List Page)
    → filter (in_frame g) waiting ≡ page ∷ more → length waiting ≡ suc (length (without_first g waiting))
length-without_first g [] page more e = cc
length-without_first g (other ∷ waiting) page more e =
    elim (true_or_false (in_frame g other)) [
      | inl h ↦ rw (without_first-yes g other waiting h) refl
      | inr h ↦ let ih = length-without_first g waiting page more (sym (filter-no (in_frame g) other waiting h) ∙ e) in
          rw (without_first-no g other waiting h) (ap suc ih)
    ]

-- and their runs are shorter by its run
pub sum-without_first : (g : ℕ) (waiting : List Page) (page : Page) (more : List Page) → filter (in_frame g) waiting ≡ page ∷ more
    → sum_by size waiting ≡ size page + sum_by size (without_first g waiting)
sum-without_first g [] page more e = cc
sum-without_first g (other ∷ waiting) page more e =
    elim (true_or_false (in_frame g other)) [
      | inl h ↦ let y = filter-yes (in_frame g) other waiting h in let s : other ≡ page = cc in
          sum_by-cons size other waiting ∙ ap (λ x. size x + sum_by size waiting) s
          ∙ ap (λ l. size page + sum_by size l) (sym (without_first-yes g other waiting h))
      | inr h ↦ let ih = sum-without_first g waiting page more (sym (filter-no (in_frame g) other waiting h) ∙ e) in
          let k : sum_by size (other ∷ waiting) ≡ size page + sum_by size (other ∷ without_first g waiting) =
          omega (arith, ih, sum_by-cons size other waiting, sum_by-cons size other (without_first g waiting)) in
          k ∙ ap (λ l. size page + sum_by size l) (sym (without_first-no g other waiting h))
    ]
