-- The marked pages of a frame, and the runs of a frame that are clean.
use Rattle.std.proofs.Common.{◌≡◌, ℕ, suc, ◌+◌, Bool, true, false, cond, List, [], ◌∷◌, length, drop, refl, sym, ◌∙◌, ap, ap₂, inl, inr, eqb-true}
use Rattle.std.specs.List.{filter}
use Rattle.std.proofs.lemmas.Bool.{cases_Bool}
use Rattle.page_text.specs.Page.{Page}
use Rattle.scheduler.specs.Slots.{PlanPiece, Idle, Run, run, pages_in_order, frame, in_frame}
use Rattle.near.specs.Clean.{run_is_clean}
use Rattle.near.proofs.NearPages.{kept_run, kept_runs}
use Rattle.repeats.specs.Kept.{clean_runs, first_mark, marks_behind, marked}

-- the pages with their marks, as far as both go
abbrev pub pick : List Bool → List Page → List Page
pick [] pages = []
pick (mark ∷ marks) [] = []
pick (mark ∷ marks) (page ∷ pages) = kept_run mark page (pick marks pages)

pick_first : (marks : List Bool) (page : Page) (pages : List Page) → kept_run (first_mark marks) page (pick (drop 1 marks) pages) ≡ pick marks (page ∷ pages)
pick_first [] page pages = refl
pick_first (mark ∷ marks) page pages = refl

cond_is_run : (t : Bool) (page : Page) (rest : List Page) → cond t (page ∷ rest) rest ≡ kept_run t page rest
cond_is_run true page rest = refl
cond_is_run false page rest = refl

filter_in : (q : Page → Bool) (t : Bool) (page : Page) (rest : List Page) → q page ≡ true → filter q (kept_run t page rest) ≡ kept_run t page (filter q rest)
filter_in q true page rest e = ap (λ (b : Bool). cond b (page ∷ filter q rest) (filter q rest)) e
filter_in q false page rest e = refl

filter_out : (q : Page → Bool) (t : Bool) (page : Page) (rest : List Page) → q page ≡ false → filter q (kept_run t page rest) ≡ filter q rest
filter_out q true page rest e = ap (λ (b : Bool). cond b (page ∷ filter q rest) (filter q rest)) e
filter_out q false page rest e = refl

-- the marked pages of a frame are its pages with its marks
pub marked_in_frame : (f : ℕ) (marks : ℕ → List Bool) (ps : List Page) → filter (in_frame f) (marked marks ps) ≡ pick (marks f) (filter (in_frame f) ps)
unfolding marked
marked_in_frame f marks [] = nothing (marks f)
  where
    nothing : (ms : List Bool) → [] ≡ pick ms []
    nothing [] = refl
    nothing (m ∷ ms) = refl
marked_in_frame f marks (page ∷ ps) =
    let rest = marked (marks_behind (frame page) marks) ps in
    let ih = marked_in_frame f (marks_behind (frame page) marks) ps in
    ap (filter (in_frame f)) (cond_is_run (first_mark (marks (frame page))) page rest) ∙
    elim (cases_Bool (in_frame f page)) [
      | inl here ↦
          let same : marks (frame page) ≡ marks f = ap marks (eqb-true (frame page) f here) in
          filter_in (in_frame f) (first_mark (marks (frame page))) page rest here
          ∙ ap₂ (λ (ms : List Bool) (xs : List Page). kept_run (first_mark ms) page xs) same
          (ih ∙ ap (λ (b : Bool). pick (cond b (drop 1 (marks f)) (marks f)) (filter (in_frame f) ps)) here)
          ∙ pick_first (marks f) page (filter (in_frame f) ps)
          ∙ ap (λ (b : Bool). pick (marks f) (cond b (page ∷ filter (in_frame f) ps) (filter (in_frame f) ps))) (sym here)
      | inr other ↦
          filter_out (in_frame f) (first_mark (marks (frame page))) page rest other
          ∙ ih ∙ ap (λ (b : Bool). pick (cond b (drop 1 (marks f)) (marks f)) (filter (in_frame f) ps)) other
          ∙ ap (λ (b : Bool). pick (marks f) (cond b (page ∷ filter (in_frame f) ps) (filter (in_frame f) ps))) (sym other)
    ]

-- the clean runs of a frame are its runs with the marks of the clean ones
pub runs_in_frame : (f : ℕ) (test : ℕ → Bool) (p : ℕ) (ps : List PlanPiece)
    → filter (in_frame f) (kept_runs test p ps) ≡ pick (clean_runs test f p ps) (filter (in_frame f) (pages_in_order ps))
unfolding kept_runs clean_runs
runs_in_frame f test p [] = refl
runs_in_frame f test p (Idle ∷ ps) = runs_in_frame f test (suc p) ps
runs_in_frame f test p (Run page ∷ ps) =
    let t = run_is_clean test p page in
    let rest = kept_runs test (p + length (run page)) ps in
    let more = clean_runs test f (p + length (run page)) ps in
    let ih = runs_in_frame f test (p + length (run page)) ps in
    elim (cases_Bool (in_frame f page)) [
      | inl here ↦
          filter_in (in_frame f) t page rest here ∙ ap (kept_run t page) ih
          ∙ ap (λ (b : Bool). pick (cond b (t ∷ more) more) (cond b (page ∷ filter (in_frame f) (pages_in_order ps)) (filter (in_frame f) (pages_in_order ps)))) (sym here)
      | inr other ↦
          filter_out (in_frame f) t page rest other ∙ ih
          ∙ ap (λ (b : Bool). pick (cond b (t ∷ more) more) (cond b (page ∷ filter (in_frame f) (pages_in_order ps)) (filter (in_frame f) (pages_in_order ps)))) (sym other)
    ]
