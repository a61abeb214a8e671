-- All runs of a seed with as many pages count the same.
use Rattle.std.proofs.Common.{◌≡◌, ℕ, ◌*◌, Bool, List, [], ◌∷◌, length, None, sum, refl, sym, ◌∙◌, ap, ap₂, subst, arith}
use Rattle.air.specs.Air.{IsAir, transmission}
use Rattle.air.specs.Sends.{HasBatches}
use Rattle.air.proofs.OneAir.{one_air}
use Rattle.bits.specs.Bits.{words_bits}
use Rattle.listening.specs.PageLines.{page_lines}
use Rattle.page_text.specs.Page.{Page}
use Rattle.scheduler.specs.Plan.{slots_of}
use Rattle.scheduler.proofs.Schedules.{slots_of-schedule}
use Rattle.scheduler.proofs.Unique.{at_most_one}
use Rattle.subscribers.specs.Directory.{directory_of}
use Rattle.tap_block.specs.Chars.{characters}
use Rattle.tap_terminal.specs.Session.{IsSession, Session}
use Rattle.tap_terminal.proofs.Fronts.{session_exists}
use Rattle.tap_terminal.proofs.Sessions.{one_session}
use Rattle.load.specs.Draws.{draw}
use Rattle.load.specs.Generated.{drawn_session}
use Rattle.load.specs.Loads.{IsLoad, heard_first, heard_second}
use Rattle.load.specs.Subscribers.{load_cells, load_settings}
use Rattle.load.specs.declared.report.Report.{Report}

-- ---- transmissions

some_air : (pages : List Page) → (air : List Bool) × IsAir pages air
some_air [] = ([], refl)
some_air (page ∷ pages) = (words_bits (transmission (slots_of (page ∷ pages))), (slots_of (page ∷ pages), slots_of-schedule (page ∷ pages) (λ e. absurd cc), refl))

some_batches : (pages : List Page) → (n : ℕ) × HasBatches pages n
some_batches [] = (0, refl)
some_batches (page ∷ pages) =
    let s = slots_of-schedule (page ∷ pages) (λ e. absurd cc) in
    (s.layout.batches.0, (slots_of (page ∷ pages), s, ap length s.slots_are ∙ s.layout.batches.1))

one_number_of_batches : (pages : List Page) (n m : ℕ) → HasBatches pages n → HasBatches pages m → n ≡ m
one_number_of_batches [] n m h k = h ∙ sym k
one_number_of_batches (page ∷ pages) n m h k =
    let same = ap length (at_most_one (page ∷ pages) h.0 k.0 h.1 k.1) in
    let a : length h.0 ≡ 16 * n = h.2 in
    let b : length k.0 ≡ 16 * m = k.2 in
    omega (arith, same, a, b)

-- ---- reports

-- what is counted of a session with this transmission, which has so many batches
abbrev counted : ℕ → ℕ → Session → List Bool → ℕ → Report
counted seed count session air n = record {
  pages = length session.pages;
  batches = n;
  lines = length (heard_first seed count air n);
  bytes = length (page_lines (heard_first seed count air n));
  sum = sum (page_lines (heard_first seed count air n));
  kept = length (heard_second seed count air n);
}

same_report : (a b : Report) → a.pages ≡ b.pages → a.batches ≡ b.batches → a.lines ≡ b.lines → a.bytes ≡ b.bytes → a.sum ≡ b.sum → a.kept ≡ b.kept → a ≡ b
same_report a b p n l y s k =
    ap (λ (x : ℕ). record { pages = x; batches = a.batches; lines = a.lines; bytes = a.bytes; sum = a.sum; kept = a.kept }) p
    ∙ ap (λ (x : ℕ). record { pages = b.pages; batches = x; lines = a.lines; bytes = a.bytes; sum = a.sum; kept = a.kept }) n
    ∙ ap (λ (x : ℕ). record { pages = b.pages; batches = b.batches; lines = x; bytes = a.bytes; sum = a.sum; kept = a.kept }) l
    ∙ ap (λ (x : ℕ). record { pages = b.pages; batches = b.batches; lines = b.lines; bytes = x; sum = a.sum; kept = a.kept }) y
    ∙ ap (λ (x : ℕ). record { pages = b.pages; batches = b.batches; lines = b.lines; bytes = b.bytes; sum = x; kept = a.kept }) s
    ∙ ap (λ (x : ℕ). record { pages = b.pages; batches = b.batches; lines = b.lines; bytes = b.bytes; sum = b.sum; kept = x }) k

-- a session of these pages
some_session : (seed count : ℕ) → (session : Session) × IsSession None (directory_of load_settings) load_cells (characters (drawn_session (draw seed) count)) session
some_session seed count = session_exists None (directory_of load_settings) load_cells (characters (drawn_session (draw seed) count))

-- the report of a run
pub load_report : ℕ → ℕ → Report
load_report seed count =
    let session = (some_session seed count).0 in
    counted seed count session (some_air session.pages).0 (some_batches session.pages).0

pub one_report : (seed count : ℕ) (report : Report) → IsLoad seed count report → report ≡ load_report seed count
unfolding load_report
one_report seed count report h =
    let some = some_session seed count in
    let pages = some.0.pages in
    let air = some_air pages in
    let batches = some_batches pages in
    let s : h.session ≡ some.0 = one_session None (directory_of load_settings) load_cells (characters (drawn_session (draw seed) count)) h.session some.0 h.session_is some.1 in
    let a : h.air ≡ air.0 = one_air pages air.0 h.air air.1 (subst (λ (z : Session). IsAir z.pages h.air) s h.is_air) in
    let n : report.batches ≡ batches.0 = one_number_of_batches pages report.batches batches.0 (subst (λ (z : Session). HasBatches z.pages report.batches) s h.batches) batches.1 in
    same_report report (load_report seed count)
    (h.pages ∙ ap (λ (z : Session). length z.pages) s)
    n
    (h.lines ∙ ap₂ (λ (x : List Bool) (m : ℕ). length (heard_first seed count x m)) a n)
    (h.bytes ∙ ap₂ (λ (x : List Bool) (m : ℕ). length (page_lines (heard_first seed count x m))) a n)
    (h.sum_is ∙ ap₂ (λ (x : List Bool) (m : ℕ). sum (page_lines (heard_first seed count x m))) a n)
    (h.kept ∙ ap₂ (λ (x : List Bool) (m : ℕ). length (heard_second seed count x m)) a n)
