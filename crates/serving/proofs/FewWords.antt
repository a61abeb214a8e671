-- How many words the transmission of pages has, by the cells that the pages take.
use Rattle.std.proofs.Common.{◌≡◌, ℕ, ◌+◌, ◌*◌, ◌/◌, ◌≤◌, ◌<◌, ◌^◌, Bool, List, [], ◌∷◌, ◌++◌, length, length-append, map, refl, ap, arith}
use Rattle.std.proofs.lemmas.List.{length-map}
use Rattle.std.proofs.lemmas.List.Sums.{sum_by-cons}
use Rattle.std.specs.List.{sum_by}
use Rattle.air.specs.Air.{IsAir, batches, preamble, transmission}
use Rattle.air.specs.Left.{AreWords}
use Rattle.air.proofs.Batches.{length-batches}
use Rattle.bits.specs.Bits.{words_bits}
use Rattle.bits.proofs.Lengths.{length-words_bits}
use Rattle.codeword.specs.Words.{message_of}
use Rattle.codeword.specs.declared.functions.Function.{Function}
use Rattle.codeword.specs.declared.functions.Function.TheVariants.{Numeric, Tone1, Tone2, Alpha}
use Rattle.page_pool.specs.Cells.{cells_for, cells_of}
use Rattle.page_pool.specs.Pool.{Live, Pool, Sound, cells, in_use, pages}
use Rattle.page_text.specs.Groups.{groups, numeric_code}
use Rattle.page_text.specs.Page.{Page}
use Rattle.page_text.proofs.Groups.{length-groups_of}
use Rattle.scheduler.specs.Slots.{IsSchedule, run}
use Rattle.scheduler.proofs.Schedules.{few_slots}

-- ---- the words of a page, by its cells

-- a text of n characters has at most 12 groups a cell
cells_hold : (n : ℕ) → (n ≤ 32 * cells_for n) × (1 ≤ cells_for n)
cells_hold n = (omega arith, omega arith)

groups_few : (function : Function) (text : List ℕ) → length (groups function text) ≤ 12 * cells_for (length text)
groups_few Numeric text = let h = cells_hold (length text) in let a = h.0 in let b = h.1 in omega (arith, length-groups_of 4 12 (map numeric_code text), length-map text numeric_code, a, b)
groups_few Tone1 text = omega arith
groups_few Tone2 text = omega arith
groups_few Alpha text = let h = cells_hold (length text) in let a = h.0 in let b = h.1 in omega (arith, length-groups_of 7 0 text, a, b)

run_few : (page : Page) → length (run page) ≤ 1 + 12 * cells_of page
unfolding run
run_few page = omega (arith, length-map (groups page.function page.text) message_of, groups_few page.function page.text)

-- pages take at least a cell each
pub runs_few : (pages : List Page) → (sum_by (λ page. length (run page)) pages ≤ length pages + 12 * sum_by cells_of pages) × (length pages ≤ sum_by cells_of pages)
runs_few [] = (omega arith, omega arith)
runs_few (page ∷ pages) =
    let on = runs_few pages in
    let a = on.0 in
    let b = on.1 in
    let c = (cells_hold (length page.text)).1 in (
      omega (arith, a, run_few page, sum_by-cons (λ (p : Page). length (run p)) page pages, sum_by-cons cells_of page pages),
      omega (arith, b, c, sum_by-cons cells_of page pages),
    )

-- the slots of a transmission are at most 27 for each cell, and one batch
pub slots_by_cells : (page : Page) (accepted : List Page) (slots : List ℕ) (spare : ℕ) → IsSchedule (page ∷ accepted) slots → sum_by cells_of (page ∷ accepted) ≤ spare
    → length slots ≤ 27 * spare + 16
slots_by_cells page accepted slots spare are le =
    let f = few_slots (page ∷ accepted) slots (λ e. absurd cc) are in
    let r = runs_few (page ∷ accepted) in
    let a = r.0 in
    let b = r.1 in
    omega (arith, f, a, b, le)

-- ---- the bits of a transmission, by the cells of its pages

length-preamble : length preamble ≡ 18
unfolding preamble
length-preamble = refl

pub length-transmission : (slots : List ℕ) → length (transmission slots) ≡ 18 + 17 * (length slots / 16)
length-transmission slots = omega (arith, length-append preamble (batches (length slots / 16) slots), length-preamble, length-batches (length slots / 16) slots (omega arith))

-- ---- the pages of a pool

live_cells : (es : List Live) → sum_by cells_of (map (λ (e : Live). e.page) es) ≡ in_use es
live_cells [] = omega arith
live_cells (e ∷ es) = omega (arith, live_cells es, sum_by-cons cells_of e.page (map (λ (l : Live). l.page) es))

pub pool_cells : (w : Pool) → Sound w → sum_by cells_of (pages w) ≤ 65536
pool_cells w sound = let most = sound.most in omega (arith, live_cells w.live, most)

-- a transmission of them has fewer words than a recording has room for
pub few_words : (w : Pool) (words : List ℕ) → Sound w → AreWords (pages w) words → length words < 1900000
few_words w words sound are = few (pages w) are (pool_cells w sound)
  where
    few : (accepted : List Page) → AreWords accepted words → sum_by cells_of accepted ≤ 65536 → length words < 1900000
    few [] a le = omega (arith, ap length a)
    few (page ∷ accepted) a le =
        let n = slots_by_cells page accepted a.0 65536 a.1 le in
        omega (arith, n, ap length a.2, length-transmission a.0)

-- and fewer than 2^32 bits
pub few_air : (w : Pool) (bits : List Bool) → Sound w → IsAir (pages w) bits → length bits < 2 ^ 32
few_air w bits sound air = few (pages w) air (pool_cells w sound)
  where
    few : (accepted : List Page) → IsAir accepted bits → sum_by cells_of accepted ≤ 65536 → length bits < 2 ^ 32
    few [] a le = omega (arith, ap length a)
    few (page ∷ accepted) a le =
        let n = slots_by_cells page accepted a.0 65536 a.1 le in
        omega (arith, n, ap length a.2, length-words_bits (transmission a.0), length-transmission a.0)
