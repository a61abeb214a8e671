-- How reports grow.
use Rattle.std.proofs.Common.{◌≡◌, ℕ, ◌+◌, ◌*◌, ◌≤◌, ◌==◌, cond, Bool, List, [], ◌∷◌, ◌++◌, replicate, refl, ap, ◌∙◌, arith}
use Rattle.std.proofs.Math.Nat.{mul-one, mul-zero}
use Rattle.std.proofs.lemmas.List.Folds.{sum_by-replicate}
use native.Mathlib.Numerals.{unary_clauses}
use Rattle.std.specs.Prelude.{count_by}
use Rattle.std.proofs.lemmas.List.Sums.{sum_by-append}
use Rattle.tap_terminal.specs.declared.answers.Reason.TheVariants.{Body, Content, Form, Unknown, Text, Room}
use Rattle.tap_terminal.specs.declared.report.Report.{Report}
use Rattle.tap_terminal.specs.Reports.{Counter, a_page, a_continued, a_nak, refusal, a_wrong, uncounted, counter_number, counters_by, counts, added, added_pages, tally}

-- how many of two lists
pub count_by-append : {X : Type 0} (p : X → Bool) (xs ys : List X) → count_by p (xs ++ ys) ≡ count_by p xs + count_by p ys
count_by-append p xs ys = sum_by-append (λ x. cond (p x) 1 0) xs ys

-- the reports of two lists
abbrev pub sums : Report → Report → Report
sums r s = record {
  pages = r.pages + s.pages;
  continued = r.continued + s.continued;
  nak = r.nak + s.nak;
  body = r.body + s.body;
  content = r.content + s.content;
  form = r.form + s.form;
  unknown = r.unknown + s.unknown;
  text = r.text + s.text;
  room = r.room + s.room;
  wrong = r.wrong + s.wrong;
}

-- each counter by itself
pub counts-append : (xs ys : List Counter) → counts (xs ++ ys) ≡ sums (counts xs) (counts ys)
counts-append xs ys = rw (
  count_by-append (λ k. counter_number k == 0) xs ys,
  count_by-append (λ k. counter_number k == 1) xs ys,
  count_by-append (λ k. counter_number k == 2) xs ys,
  count_by-append (λ k. counter_number k == 3) xs ys,
  count_by-append (λ k. counter_number k == 4) xs ys,
  count_by-append (λ k. counter_number k == 5) xs ys,
  count_by-append (λ k. counter_number k == 6) xs ys,
  count_by-append (λ k. counter_number k == 7) xs ys,
  count_by-append (λ k. counter_number k == 8) xs ys,
  count_by-append (λ k. counter_number k == 9) xs ys,
) refl

-- the report of one item more
sums_one : (r : Report) (k : Counter) → sums r (counts (k ∷ [])) ≡ added r k
sums_one r a_page = simp unary_clauses refl
sums_one r a_continued = simp unary_clauses refl
sums_one r a_nak = simp unary_clauses refl
sums_one r (refusal Body) = simp unary_clauses refl
sums_one r (refusal Content) = simp unary_clauses refl
sums_one r (refusal Form) = simp unary_clauses refl
sums_one r (refusal Unknown) = simp unary_clauses refl
sums_one r (refusal Text) = simp unary_clauses refl
sums_one r (refusal Room) = simp unary_clauses refl
sums_one r a_wrong = simp unary_clauses refl
sums_one r uncounted = simp unary_clauses refl

-- one item more
pub counts-push : (xs : List Counter) (k : Counter) → counts (xs ++ k ∷ []) ≡ added (counts xs) k
counts-push xs k = counts-append xs (k ∷ []) ∙ sums_one (counts xs) k

-- how many of one thing so many times
pub count_by-replicate : {X : Type 0} (p : X → Bool) (n : ℕ) (x : X) → count_by p (replicate n x) ≡ n * cond (p x) 1 0
count_by-replicate p n x = sum_by-replicate (λ y. cond (p y) 1 0) n x

-- the report of so many pages
sums_pages : (r : Report) (n : ℕ) → sums r (counts (replicate n a_page)) ≡ record r { pages = r.pages + n }
sums_pages r n = rw (
  count_by-replicate (λ k. counter_number k == 0) n a_page,
  count_by-replicate (λ k. counter_number k == 1) n a_page,
  count_by-replicate (λ k. counter_number k == 2) n a_page,
  count_by-replicate (λ k. counter_number k == 3) n a_page,
  count_by-replicate (λ k. counter_number k == 4) n a_page,
  count_by-replicate (λ k. counter_number k == 5) n a_page,
  count_by-replicate (λ k. counter_number k == 6) n a_page,
  count_by-replicate (λ k. counter_number k == 7) n a_page,
  count_by-replicate (λ k. counter_number k == 8) n a_page,
  count_by-replicate (λ k. counter_number k == 9) n a_page,
) (simp (unary_clauses, mul-one, mul-zero) refl)

-- an item more, whose block queued so many pages
pub counts-push_all : (xs : List Counter) (k : Counter) (pages : ℕ) → counts (xs ++ counters_by k pages) ≡ added_pages (counts xs) k pages
counts-push_all xs a_page pages = counts-append xs (replicate pages a_page) ∙ sums_pages (counts xs) pages
counts-push_all xs a_continued pages = counts-push xs a_continued
counts-push_all xs a_nak pages = counts-push xs a_nak
counts-push_all xs (refusal reason) pages = counts-push xs (refusal reason)
counts-push_all xs a_wrong pages = counts-push xs a_wrong
counts-push_all xs uncounted pages = counts-push xs uncounted

-- one item more is at most one more
tally_added : (r : Report) (k : Counter) (n : ℕ) → tally r ≤ n → tally (added r k) ≤ n + 1
tally_added r a_page n h = omega (arith, h)
tally_added r a_continued n h = omega (arith, h)
tally_added r a_nak n h = omega (arith, h)
tally_added r (refusal Body) n h = omega (arith, h)
tally_added r (refusal Content) n h = omega (arith, h)
tally_added r (refusal Form) n h = omega (arith, h)
tally_added r (refusal Unknown) n h = omega (arith, h)
tally_added r (refusal Text) n h = omega (arith, h)
tally_added r (refusal Room) n h = omega (arith, h)
tally_added r a_wrong n h = omega (arith, h)
tally_added r uncounted n h = omega (arith, h)

-- an item more, with at most 16 pages, is at most 16 more
pub tally_added_pages : (r : Report) (k : Counter) (pages n : ℕ) → pages ≤ 16 → tally r ≤ 16 * n → tally (added_pages r k pages) ≤ 16 * (n + 1)
tally_added_pages r a_page pages n few h = omega (arith, few, h)
tally_added_pages r a_continued pages n few h = omega (arith, h)
tally_added_pages r a_nak pages n few h = omega (arith, h)
tally_added_pages r (refusal reason) pages n few h = let more = tally_added r (refusal reason) (16 * n) h in omega (arith, more)
tally_added_pages r a_wrong pages n few h = omega (arith, h)
tally_added_pages r uncounted pages n few h = omega (arith, h)
