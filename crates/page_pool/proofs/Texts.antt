-- Texts that lie in cells.
use Rattle.std.proofs.Common.{◌≡◌, ◌≢◌, ℕ, zero, suc, ◌+◌, ◌-◌, ◌*◌, ◌/◌, ◌%◌, ◌<◌, ◌≤◌, inl, inr, set, List, map, length, get_or, refl, sym, ◌∙◌, ap, subst, arith}
use Rattle.std.specs.List.{range_with_len}
use Rattle.std.proofs.lemmas.Bool.Decides.{eqb_tells}
use Rattle.std.proofs.lemmas.List.{get_or-set_same, get_or-set_other}
use Rattle.std.proofs.lemmas.List.FromFn.{fill_by_all}
use Rattle.codeword.specs.declared.functions.Function.{Function}
use Rattle.codeword.specs.declared.functions.Function.TheVariants.{Numeric, Tone1, Tone2, Alpha}
use Rattle.page_text.specs.declared.limits.TheConstants.{LONGEST_TEXT}
use Rattle.page_text.specs.Fits.{Fits}
use Rattle.page_text.specs.Page.{Page}
use Rattle.page_pool.specs.Cells.{FitsPage, cells_for}
use Rattle.page_pool.specs.Chain.{times, walk, cell_behind}
use Rattle.page_pool.specs.Layout.{byte_at, text_in_cells}
use Rattle.page_pool.proofs.Chains.{times-read, length-walk, get_or-walk, read_apart, step_more}

-- the same, by the function
short : (function : Function) (text_in_cells : List ℕ) → Fits function text_in_cells → length text_in_cells ≤ LONGEST_TEXT
short Numeric text_in_cells f = omega (arith, f.short)
short Tone1 text_in_cells f = omega (arith, ap length f)
short Tone2 text_in_cells f = omega (arith, ap length f)
short Alpha text_in_cells f = f.short

-- a text that fits its function has no more characters than the limit
pub fits-short : (p : Page) → FitsPage p → length p.text ≤ LONGEST_TEXT
fits-short p f = short p.function p.text f

-- at least one cell, and enough of them
pub cells_for-suc : (n : ℕ) → (m : ℕ) × (cells_for n ≡ suc m)
cells_for-suc n = (cells_for n - 1, omega arith)

-- a byte of a text lies in its cells
pub cells_for-enough : (n i : ℕ) → i < n → i / 32 < cells_for n
cells_for-enough n i h = omega (arith, h)

-- images of a range stay where none of them changed
pub map-range_same : (f g : ℕ → ℕ) (a n : ℕ) → ((i : ℕ) → a ≤ i → i < a + n → g i ≡ f i) → map g (range_with_len a n) ≡ map f (range_with_len a n)
map-range_same f g a zero h = refl
map-range_same f g a (suc n) h =
    let here : g a ≡ f a = h a (omega arith) (omega arith) in
    let rest : map g (range_with_len (a + 1) n) ≡ map f (range_with_len (a + 1) n) = map-range_same f g (a + 1) n (λ i l k. h i (omega (arith, l)) (omega (arith, k))) in
    rw (here, rest) refl

-- the bytes of these cells are as they were
abbrev pub SameCells : List ℕ → List ℕ → List ℕ → Type 0
SameCells old new cells = (k : ℕ) → 0 < times k cells → (j : ℕ) → j < 32 → get_or new (32 * k + j) 0 ≡ get_or old (32 * k + j) 0

-- a text stays where its bytes stay
pub text-same : (old new cells : List ℕ) (n : ℕ) → SameCells old new cells → length cells ≡ cells_for n → text_in_cells new cells n ≡ text_in_cells old cells n
text-same old new cells n same size =
    map-range_same (byte_at old cells) (byte_at new cells) 0 n
    (λ i l k. let m : i / 32 < length cells = omega (arith, cells_for-enough n i (omega (arith, k))) in
    same (get_or cells (i / 32) 0) (times-read cells (i / 32) 0 m) (i % 32) (omega arith))

-- a cell of a walk
pub step_in : (f : ℕ → ℕ) (n c k : ℕ) → k < n → 0 < times (cell_behind f k c) (walk f n c)
step_in f n c k h = subst (λ z. 0 < times z (walk f n c)) (get_or-walk f n c k 0 h) (times-read (walk f n c) k 0 (omega (arith, h, length-walk f n c)))

-- two bytes of a text lie at two places
pub bytes_apart : (cells : List ℕ) (k i : ℕ) → ((c : ℕ) → times c cells ≤ 1) → i / 32 < length cells → k < i
    → 32 * get_or cells (k / 32) 0 + k % 32 ≢ 32 * get_or cells (i / 32) 0 + i % 32
bytes_apart cells k i one l h e =
    let same : get_or cells (k / 32) 0 ≡ get_or cells (i / 32) 0 = omega (arith, e) in
    let low : k % 32 ≡ i % 32 = omega (arith, e) in
    let far : k / 32 < i / 32 = omega (arith, low, h) in
    read_apart cells (k / 32) (i / 32) 0 one far l same

-- one character more was written
pub written_more : (bytes cells chars : List ℕ) (i a v : ℕ) → ((c : ℕ) → times c cells ≤ 1) → i / 32 < length cells
    → a ≡ 32 * get_or cells (i / 32) 0 + i % 32 → a < length bytes → v ≡ get_or chars i 0
    → ((k : ℕ) → k < i → byte_at bytes cells k ≡ get_or chars k 0)
    → (k : ℕ) → k < i + 1 → byte_at (set bytes a v) cells k ≡ get_or chars k 0
written_more bytes cells chars i a v one l at within read before k h =
    elim (eqb_tells k i) [
      | inl e ↦ ap (λ z. byte_at (set bytes a v) cells z) e.1 ∙ ap (λ z. get_or (set bytes a v) z 0) (sym at) ∙ get_or-set_same bytes a v 0 within ∙ read ∙ ap (λ z. get_or chars z 0) (sym e.1)
      | inr ne ↦ let less : k < i = omega (arith, h, ne.1) in
          get_or-set_other bytes a (32 * get_or cells (k / 32) 0 + k % 32) v 0 (λ e. bytes_apart cells k i one l less (e ∙ at)) ∙ before k less
    ]

-- it was written to none of the other cells
pub others_more : (bytes cells : List ℕ) (i a v : ℕ) → i / 32 < length cells → a ≡ 32 * get_or cells (i / 32) 0 + i % 32
    → (k : ℕ) → times k cells ≡ 0 → (j : ℕ) → j < 32 → get_or (set bytes a v) (32 * k + j) 0 ≡ get_or bytes (32 * k + j) 0
others_more bytes cells i a v l at k none j h =
    get_or-set_other bytes a (32 * k + j) v 0 (λ e. let q : get_or cells (i / 32) 0 ≡ k = omega (arith, e, at, h) in
    let p : 0 < times (get_or cells (i / 32) 0) cells = times-read cells (i / 32) 0 l in
    let p' : 0 < times k cells = subst (λ z. 0 < times z cells) q p in omega (arith, p', none))

-- the text that was written
pub text_is : (bytes cells chars : List ℕ) → ((k : ℕ) → k < length chars → byte_at bytes cells k ≡ get_or chars k 0) → text_in_cells bytes cells (length chars) ≡ chars
text_is bytes cells chars h = sym (fill_by_all (byte_at bytes cells) chars (length chars) 0 refl (λ k l. sym (h k l)))

-- the cell of byte i, from that of the byte before
pub cell_next : (f : ℕ → ℕ) (from i old new : ℕ) → old ≡ cell_behind f ((i - 1) / 32) from → 0 < i → i % 32 ≡ 0 → new ≡ f old → new ≡ cell_behind f (i / 32) from
cell_next f from i old new e l z n =
    let d : i / 32 ≡ suc ((i - 1) / 32) = omega (arith, l, z) in
    n ∙ ap f e ∙ sym (step_more f ((i - 1) / 32) from) ∙ ap (λ k. cell_behind f k from) (sym d)

-- the same within a cell
pub cell_stays : (f : ℕ → ℕ) (from i old new : ℕ) → old ≡ cell_behind f ((i - 1) / 32) from → i % 32 ≢ 0 → new ≡ old → new ≡ cell_behind f (i / 32) from
cell_stays f from i old new e z n = n ∙ e ∙ ap (λ k. cell_behind f k from) (let d : (i - 1) / 32 ≡ i / 32 = omega (arith, z) in d)

-- the same at the first byte
pub cell_starts : (f : ℕ → ℕ) (from i old new : ℕ) → old ≡ cell_behind f ((i - 1) / 32) from → i ≤ 0 → new ≡ old → new ≡ cell_behind f (i / 32) from
cell_starts f from i old new e z n = n ∙ e ∙ ap (λ k. cell_behind f k from) (let d : (i - 1) / 32 ≡ i / 32 = omega (arith, z) in d)

-- one character more was read
pub read_more : (into : List ℕ) (g : ℕ → ℕ) (i v : ℕ) → i < length into → v ≡ g i → ((k : ℕ) → k < i → get_or into k 0 ≡ g k)
    → (k : ℕ) → k < i + 1 → get_or (set into i v) k 0 ≡ g k
read_more into g i v within read before k h =
    elim (eqb_tells k i) [
      | inl e ↦ ap (λ z. get_or (set into i v) z 0) e.1 ∙ get_or-set_same into i v 0 within ∙ read ∙ ap g (sym e.1)
      | inr ne ↦ get_or-set_other into i k v 0 ne.1 ∙ before k (omega (arith, h, ne.1))
    ]
