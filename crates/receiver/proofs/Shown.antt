-- The pages that are shown by a receiver are those of its capcodes.
use Rattle.std.proofs.Common.{◌≡◌, ℕ, zero, suc, ◌+◌, ◌<◌, ◌≤◌, ◌==◌, Bool, true, false, cond, List, [], ◌∷◌, ◌++◌, map, refl, ◌∙◌, ap, ap₂, inl, inr, eq-eqb, ne_eqb, arith}
use Rattle.std.specs.Prelude.{filter}
use Rattle.std.specs.List.{range_with_len}
use Rattle.std.proofs.lemmas.Bool.{cases_eq}
use Rattle.std.proofs.lemmas.List.{map-append}
use Rattle.std.proofs.lemmas.List.Elements.{filter-append}
use Rattle.codeword.specs.declared.functions.Function.TheVariants.{Tone1}
use Rattle.page_text.specs.Page.{Page}
use Rattle.receiver.specs.Receivers.{numbers_with}
use Rattle.receiver.specs.Shown.{has_of, pages_in, shown, shown_by, shown_page}

abbrev with_page : Page → ℕ → ℕ × Page
with_page page number = (number, page)

-- the numbers of a range from above a number on
none_by : (p : ℕ → Bool) (number : ℕ) (page : Page) (a n : ℕ) → number < a → shown_by number (map (with_page page) (filter p (range_with_len a n))) ≡ []
none_by p number page a zero l = refl
none_by p number page a (suc n) l =
    some (p a) (none_by p number page (a + 1) n (omega arith))
  where
    some : (b : Bool) → shown_by number (map (with_page page) (filter p (range_with_len (a + 1) n))) ≡ []
        → shown_by number (map (with_page page) (cond b (a ∷ filter p (range_with_len (a + 1) n)) (filter p (range_with_len (a + 1) n)))) ≡ []
    some true ih =
        ap (λ (t : Bool). map (λ (pair : ℕ × Page). pair.1) (cond t ((a, page) ∷ filter (λ (pair : ℕ × Page). pair.0 == number) (map (with_page page) (filter p (range_with_len (a + 1) n)))) (filter (λ (pair : ℕ × Page). pair.0 == number) (map (with_page page) (filter p (range_with_len (a + 1) n))))))
        (ne_eqb a number (λ e. omega (arith, e, l))) ∙ ih
    some false ih = ih

-- a range that has the number
once_by : (p : ℕ → Bool) (number : ℕ) (page : Page) (a n : ℕ) → a ≤ number → number < a + n
    → shown_by number (map (with_page page) (filter p (range_with_len a n))) ≡ cond (p number) (page ∷ []) []
once_by p number page a zero l h = absurd (omega arith)
once_by p number page a (suc n) l h = elim (cases_eq a number) [
  | inl same ↦
      some (p a) (eq-eqb a number same) (none_by p number page (a + 1) n (omega (arith, same)))
      ∙ ap (λ (k : ℕ). cond (p k) (page ∷ []) []) same
  | inr apart ↦
      other (p a) (ne_eqb a number apart) ∙ once_by p number page (a + 1) n (omega (arith, apart)) (omega arith)
]
  where
    rest : List ℕ
    rest = filter p (range_with_len (a + 1) n)

    some : (b : Bool) → (a == number) ≡ true → shown_by number (map (with_page page) (filter p (range_with_len (a + 1) n))) ≡ []
        → shown_by number (map (with_page page) (cond b (a ∷ filter p (range_with_len (a + 1) n)) (filter p (range_with_len (a + 1) n)))) ≡ cond b (page ∷ []) []
    some true t none =
        ap (λ (t : Bool). map (λ (pair : ℕ × Page). pair.1) (cond t ((a, page) ∷ filter (λ (pair : ℕ × Page). pair.0 == number) (map (with_page page) (filter p (range_with_len (a + 1) n)))) (filter (λ (pair : ℕ × Page). pair.0 == number) (map (with_page page) (filter p (range_with_len (a + 1) n))))))
        t ∙ ap (λ (ps : List Page). page ∷ ps) none
    some false t none = none

    other : (b : Bool) → (a == number) ≡ false
        → shown_by number (map (with_page page) (cond b (a ∷ filter p (range_with_len (a + 1) n)) (filter p (range_with_len (a + 1) n)))) ≡ shown_by number (map (with_page page) (filter p (range_with_len (a + 1) n)))
    other true t =
        ap (λ (t : Bool). map (λ (pair : ℕ × Page). pair.1) (cond t ((a, page) ∷ filter (λ (pair : ℕ × Page). pair.0 == number) (map (with_page page) (filter p (range_with_len (a + 1) n)))) (filter (λ (pair : ℕ × Page). pair.0 == number) (map (with_page page) (filter p (range_with_len (a + 1) n)))))) t
    other false t = refl

page_by : (has : ℕ → ℕ → Bool) (number : ℕ) (page : Page) → 1 ≤ number → number ≤ 64 → shown_by number (shown_page has page) ≡ cond (has number page.capcode) (page ∷ []) []
unfolding numbers_with
page_by has number page some most = once_by (λ (n : ℕ). has n page.capcode) number page 1 64 some (omega arith)

cond_first : (b : Bool) (page : Page) (pages : List Page) → cond b (page ∷ []) [] ++ pages ≡ cond b (page ∷ pages) pages
cond_first true page pages = refl
cond_first false page pages = refl

-- the pages that are shown by a receiver are those of its capcodes, in order
pub shown_by-shown : (has : ℕ → ℕ → Bool) (number : ℕ) (pages : List Page) → 1 ≤ number → number ≤ 64 → shown_by number (shown has pages) ≡ pages_in (has number) pages
shown_by-shown has number [] some most = refl
shown_by-shown has number (page ∷ pages) some most =
    ap (map (λ (pair : ℕ × Page). pair.1)) (filter-append (λ (pair : ℕ × Page). pair.0 == number) (shown_page has page) (shown has pages))
    ∙ map-append (λ (pair : ℕ × Page). pair.1) (filter (λ (pair : ℕ × Page). pair.0 == number) (shown_page has page)) (filter (λ (pair : ℕ × Page). pair.0 == number) (shown has pages))
    ∙ ap₂ (λ (x y : List Page). x ++ y) (page_by has number page some most) (shown_by-shown has number pages some most)
    ∙ cond_first (has number page.capcode) page (pages_in (has number) pages)

-- ---- two receivers, of 8 and 15 and of 16 and 8, and the pages of 8, 16 and 15

abbrev tone : ℕ → Page
tone capcode = record { capcode = capcode; function = Tone1; text = [] }

example : shown (has_of ((8 ∷ 15 ∷ []) ∷ (16 ∷ 8 ∷ []) ∷ [])) (tone 8 ∷ tone 16 ∷ tone 15 ∷ []) ≡ (1, tone 8) ∷ (2, tone 8) ∷ (2, tone 16) ∷ (1, tone 15) ∷ []
unfolding numbers_with
example = refl
