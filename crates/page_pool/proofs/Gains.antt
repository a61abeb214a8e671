-- Pages that are put one after another.
use Rattle.std.proofs.Common.{◌≡◌, ℕ, suc, ◌+◌, ◌-◌, ◌*◌, ◌/◌, ◌<◌, ◌≤◌, ◌↔◌, List, [], ◌∷◌, ◌++◌, map, length, get_or, take, Result, Ok, Err, IsErr, OnOk, refl, sym, ap, ◌∙◌, subst, arith}
use Rattle.std.proofs.Math.Nat.{div-lt_iff_lt-mul, mul-div-le, mul-le-mul_left, mul-suc, mul_comm}
use Rattle.std.proofs.Math.Seq.{take-suc}
use Rattle.std.proofs.lemmas.List.{map-append}
use Rattle.codeword.specs.declared.functions.Function.{Function}
use Rattle.page_text.specs.Page.{Page}
use Rattle.page_pool.specs.Cells.{cells_for}
use Rattle.page_pool.specs.Pool.{Pool, PutsPage, page}
use Rattle.page_pool.specs.Gains.{Gains, cells_of_all, pages_to}

-- the cells that are left
pub gains_left : (before after : Pool) (pages : List Page) → Gains before after pages → after.spare ≡ before.spare - cells_of_all pages
gains_left before after [] h = let q = ap (λ (w : Pool). w.spare) h in omega (arith, q)
gains_left before after (p ∷ ps) h = let q = h.1.spare in let r = gains_left h.0 after ps h.2 in omega (arith, q, r)

-- one page more
pub gains_push : (before mid after : Pool) (pages : List Page) (p : Page) → Gains before mid pages → PutsPage mid after p → Gains before after (pages ++ p ∷ [])
gains_push before mid after [] p h put = (after, subst (λ (w : Pool). PutsPage w after p) h put, refl)
gains_push before mid after (q ∷ qs) p h put = (h.0, h.1, gains_push h.0 mid after qs p h.2 put)

-- the pages of one capcode more
pub pages_to-more : (capcodes : List ℕ) (k capcode : ℕ) (function : Function) (text : List ℕ) → capcode ≡ get_or capcodes k capcode → k < length capcodes
    → pages_to (take (k + 1) capcodes) function text ≡ pages_to (take k capcodes) function text ++ page capcode function text ∷ []
pages_to-more capcodes k capcode function text is within =
    let more : k + 1 ≡ suc k = omega arith in
    ap (λ n. pages_to (take n capcodes) function text) more
    ∙ ap (λ cs. pages_to cs function text) (take-suc capcodes k capcode within ∙ ap (λ c. take k capcodes ++ c ∷ []) (sym is))
    ∙ map-append (λ c. page c function text) (take k capcodes) (capcode ∷ [])

-- at least one cell
some_cells : (n : ℕ) → 0 < cells_for n
some_cells n = omega arith

-- too few cells for all, where the spare cells hold fewer texts
pub too_few : (spare n count now cells : ℕ) → now ≡ spare → cells ≡ cells_for n → now / cells < count → spare < cells_for n * count
too_few spare n count now cells e f h =
    let few : spare / cells_for n < count = subst (λ m. m / cells_for n < count) e (subst (λ m. now / m < count) f h) in
    subst (λ m. spare < m) (mul_comm count (cells_for n)) ((div-lt_iff_lt-mul {k = cells_for n} (some_cells n)).0 few)

-- enough cells for all, where the spare cells hold as many texts
pub enough : (spare n count now cells : ℕ) → now ≡ spare → cells ≡ cells_for n → count ≤ now / cells → cells_for n * count ≤ spare
enough spare n count now cells e f h =
    let many : count ≤ spare / cells_for n = subst (λ m. count ≤ m / cells_for n) e (subst (λ m. count ≤ now / m) f h) in
    let most : cells_for n * count ≤ cells_for n * (spare / cells_for n) = mul-le-mul_left (cells_for n) many in
    let whole : cells_for n * (spare / cells_for n) ≤ spare = mul-div-le spare (cells_for n) in
    omega arith

-- a page has room before the last one
pub has_room : (spare now cells k count : ℕ) → now + cells * k ≡ spare → cells * count ≤ spare → k < count → cells ≤ now
has_room spare now cells k count left all less =
    let most : cells * suc k ≤ cells * count = mul-le-mul_left cells (omega arith) in
    let one : cells * suc k ≡ cells * k + cells = mul-suc cells k in
    omega arith

-- what is left after it
pub left_then : (spare now next cells k : ℕ) → now + cells * k ≡ spare → next + cells ≡ now → next + cells * (k + 1) ≡ spare
left_then spare now next cells k left put =
    let more : k + 1 ≡ suc k = omega arith in
    let one : cells * (k + 1) ≡ cells * k + cells = ap (λ n. cells * n) more ∙ mul-suc cells k in
    omega arith
