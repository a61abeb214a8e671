-- What a whole run comes to.
use Rattle.std.proofs.Common.{◌≡◌, ℕ, ◌+◌, ◌-◌, ◌*◌, ◌/◌, ◌<◌, ◌==◌, Bool, true, false, List, [], ◌∷◌, filter, map, length, length-append, append-nil, Option, None, sum, inl, inr, arith, refl, ap, subst, sym, ◌∙◌}
use Rattle.std.specs.Prelude.{All}
use Rattle.std.proofs.lemmas.Bool.{both_ways, cases_Bool, eq-eqb, eqb-true, ne_eqb}
use Rattle.std.proofs.lemmas.List.{length-map, length-replicate}
use Rattle.std.proofs.lemmas.List.Elements.{All-cons, All-head, All-nil, All-tail}
use Rattle.air.specs.Air.{IsAir, batches, preamble, transmission}
use Rattle.air.specs.Left.{AreWords}
use Rattle.air.specs.Near.{IsNearAir, Near}
use Rattle.air.specs.Sends.{HasBatches}
use Rattle.air.proofs.Batches.{length-batches}
use Rattle.bits.specs.Bits.{words_bits}
use Rattle.codeword.specs.Capcodes.{frame_of}
use Rattle.codeword.specs.Words.{filler}
use Rattle.near.proofs.NearAir.{near_air}
use Rattle.page_text.specs.Page.{IsAcceptable, Page}
use Rattle.receiver.specs.Heard.{HeardPage, heard, with_text}
use Rattle.receiver.specs.Listeners.{Listener, is_one_of}
use Rattle.receiver.specs.Shown.{pages_in, pages_of_frame}
use Rattle.scheduler.proofs.Frames.{filter-no, filter-yes}
use Rattle.page_pool.specs.Pool.{Live, Pool}
use Rattle.subscribers.specs.Directory.{Directory, directory_of}
use Rattle.subscribers.specs.Parts.{Parts}
use Rattle.tap_terminal.specs.State.{Stands, TerminalState, unheard}
use Rattle.tap_terminal.proofs.Feeds.{stands_session}
use Rattle.load.specs.Feeding.{IsFed}
use Rattle.tap_block.specs.Chars.{characters}
use Rattle.tap_terminal.specs.Session.{IsSession, Session}
use Rattle.wires.specs.Stacked.{noisy_bits}
use Rattle.load.specs.Counting.{HasHeardAll, lines_of_pages}
use Rattle.load.specs.Draws.{draw}
use Rattle.load.specs.Generated.{drawn_session, page_begins}
use Rattle.load.specs.Loads.{IsLoad}
use Rattle.load.specs.Noises.{first_noise, second_noise}
use Rattle.load.specs.Subscribers.{load_capcodes, load_cells, load_settings}
use Rattle.load.specs.WordNoises.{first_noise_front, second_noise_front}
use Rattle.load.specs.declared.report.Report.{Report}
use Rattle.load.proofs.HeardPages.{heard-none, heard-same}
use Rattle.load.proofs.Listed.{IsForOne, all_for_one, usable_receivers}
use Rattle.load.proofs.NearNoise.{near_first}
use Rattle.load.proofs.WordNoises.{whole-first, whole-second}

air_of_words : (accepted : List Page) (all : List ℕ) → AreWords accepted all → IsAir accepted (words_bits all)
air_of_words [] all h = ap words_bits h
air_of_words (page ∷ accepted) all h = (h.0, h.1, ap words_bits h.2)

-- the batches of the words, and how many words there are, if any
words_size : (accepted : List Page) (all : List ℕ) (n : ℕ) → AreWords accepted all → n ≡ (length all - 18) / 17 → HasBatches accepted n × (0 < length all → length all ≡ 18 + 17 * n)
unfolding preamble
words_size [] all n none is = let e = ap length none in (omega (arith, e, is), λ some. absurd (omega (arith, e, some)))
words_size (page ∷ accepted) all n h is =
    let slots = h.0 in
    let b = h.1.layout.batches in
    let whole : length slots ≡ 16 * b.0 = ap length h.1.slots_are ∙ b.1 in
    let front : length (transmission slots) ≡ 18 + length (batches (length slots / 16) slots) = (let m : length preamble ≡ 18 = length-replicate 18 filler in omega (arith, m, length-append preamble (batches (length slots / 16) slots))) in
    let rest = length-batches (length slots / 16) slots (omega arith) in
    let size : length all ≡ 18 + 17 * b.0 = (let e = ap length h.2 in omega (arith, e, front, rest, whole)) in
    let same : n ≡ b.0 = omega (arith, is, size) in
    ((slots, h.1, whole ∙ ap (λ (m : ℕ). 16 * m) (sym same)), λ some. size ∙ ap (λ (m : ℕ). 18 + 17 * m) (sym same))

first_bits : (draws : ℕ → ℕ) (k : ℕ) (all : List ℕ) (words n : ℕ) → words ≡ length all → (0 < length all → length all ≡ 18 + 17 * n)
    → noisy_bits (words_bits all) (first_noise_front draws k words) ≡ noisy_bits (words_bits all) (first_noise draws k (17 * n))
first_bits draws k [] words n is size = refl
first_bits draws k (w ∷ ws) words n is size = ap (noisy_bits (words_bits (w ∷ ws))) (ap (first_noise_front draws k) (is ∙ size (omega arith)) ∙ whole-first draws k (17 * n))

second_bits : (draws : ℕ → ℕ) (k : ℕ) (all : List ℕ) (words n : ℕ) → words ≡ length all → (0 < length all → length all ≡ 18 + 17 * n)
    → noisy_bits (words_bits all) (second_noise_front draws k words) ≡ noisy_bits (words_bits all) (second_noise draws k (17 * n))
second_bits draws k [] words n is size = refl
second_bits draws k (w ∷ ws) words n is size = ap (noisy_bits (words_bits (w ∷ ws))) (ap (second_noise_front draws k) (is ∙ size (omega arith)) ∙ whole-second draws k (17 * n))

-- the pages of a capcode lie in its frame
frame_step : (c : ℕ) (page : Page) (pages : List Page) → pages_of_frame (frame_of c) (pages_in (λ capcode. capcode == c) pages) ≡ pages_in (λ capcode. capcode == c) pages
    → pages_of_frame (frame_of c) (pages_in (λ capcode. capcode == c) (page ∷ pages)) ≡ pages_in (λ capcode. capcode == c) (page ∷ pages)
frame_step c page pages later =
    let own : Page → Bool = λ (p : Page). p.capcode == c in
    let framed : Page → Bool = λ (p : Page). frame_of p.capcode == frame_of c in
    elim (cases_Bool (page.capcode == c)) [
      | inl e ↦
          let yes : filter own (page ∷ pages) ≡ page ∷ filter own pages = filter-yes own page pages e in
          let near : (frame_of page.capcode == frame_of c) ≡ true = eq-eqb (frame_of page.capcode) (frame_of c) (ap frame_of (eqb-true page.capcode c e)) in
          ap (filter framed) yes ∙ filter-yes framed page (filter own pages) near ∙ ap (λ (l : List Page). page ∷ l) later ∙ sym yes
      | inr e ↦ let no : filter own (page ∷ pages) ≡ filter own pages = filter-no own page pages e in ap (filter framed) no ∙ later ∙ sym no
    ]

frame_all : (c : ℕ) (pages : List Page) → pages_of_frame (frame_of c) (pages_in (λ capcode. capcode == c) pages) ≡ pages_in (λ capcode. capcode == c) pages
frame_all c [] = refl
frame_all c (page ∷ pages) = frame_step c page pages (frame_all c pages)

-- no page was accepted to another capcode
none_accepted : (c : ℕ) (pages : List Page) → All IsForOne pages → is_one_of load_capcodes c ≡ false → pages_in (λ capcode. capcode == c) pages ≡ []
none_accepted c [] h other = refl
none_accepted c (page ∷ pages) h other =
    let one : is_one_of load_capcodes page.capcode ≡ true = (All-head IsForOne page pages h).1 in
    let differs : (page.capcode == c) ≡ false = ne_eqb page.capcode c (λ e. both_ways (is_one_of load_capcodes c) other (subst (λ (x : ℕ). is_one_of load_capcodes x ≡ true) e one)) in
    filter-no (λ (p : Page). p.capcode == c) page pages differs ∙ none_accepted c pages (All-tail IsForOne page pages h) other

all_acceptable : (pages : List Page) → All IsForOne pages → All IsAcceptable pages
all_acceptable [] h = All-nil IsAcceptable
all_acceptable (page ∷ pages) h = All-cons IsAcceptable page pages (All-head IsForOne page pages h).0 (all_acceptable pages (All-tail IsForOne page pages h))

-- bits near one transmission
one_near : (accepted : List Page) (air bits : List Bool) → IsAir accepted air → IsNearAir air bits → Near (accepted ∷ []) bits
unfolding Near
one_near accepted air bits is near = (air, bits, [], is, near, refl, sym (append-nil bits))

-- what is heard of a near transmission
heard_near : (accepted : List Page) (air bits : List Bool) → All IsForOne accepted → IsAir accepted air → IsNearAir air bits → (c : ℕ)
    → pages_in (λ capcode. capcode == c) (map with_text (heard (is_one_of load_capcodes) bits)) ≡ pages_in (λ capcode. capcode == c) accepted
heard_near accepted air bits fine is near c = elim (cases_Bool (is_one_of load_capcodes c)) [
  | inl e ↦
      let pages = map with_text (heard (is_one_of load_capcodes) bits) in
      let one : Near (accepted ∷ []) bits = one_near accepted air bits is near in
      let acceptable : All (All IsAcceptable) (accepted ∷ []) = All-cons (All IsAcceptable) accepted [] (all_acceptable accepted fine) (All-nil (All IsAcceptable)) in
      sym (frame_all c pages)
      ∙ near_air (is_one_of load_capcodes) (accepted ∷ []) bits usable_receivers acceptable one (λ capcode. capcode == c) (frame_of c)
      (λ capcode own. subst (λ (x : ℕ). is_one_of load_capcodes x ≡ true) (sym (eqb-true capcode c own)) e)
      ∙ ap (λ (l : List Page). pages_of_frame (frame_of c) (pages_in (λ capcode. capcode == c) l)) (append-nil accepted)
      ∙ frame_all c accepted
  | inr e ↦ heard-none (is_one_of load_capcodes) c e bits ∙ sym (none_accepted c accepted fine e)
]

-- the settings have no password
no_password : load_settings.password ≡ None
unfolding load_settings
no_password = refl

-- a terminal and a pool to which nothing was fed
pub fed-none : (settings : Parts) (terminal : TerminalState) (pool : Pool) → settings ≡ load_settings → pool.live ≡ [] → pool.spare ≡ load_cells
    → ((directory : Directory) (spare : ℕ) → Stands None directory spare terminal [] unheard spare) → IsFed settings load_cells terminal pool []
fed-none settings terminal pool are empty spare stands = record {
  session = unheard;
  stands = subst (λ (p : Option (List ℕ)). Stands p (directory_of settings) load_cells terminal [] unheard pool.spare) (sym (ap (λ (s : Parts). s.password) are ∙ no_password))
      (subst (λ (n : ℕ). Stands None (directory_of settings) load_cells terminal [] unheard n) (sym spare) (stands (directory_of settings) load_cells));
  pages_are = ap (map (λ (e : Live). e.page)) empty;
}

-- the session of what was fed
pub fed-session : (settings : Parts) (terminal : TerminalState) (pool : Pool) (x : List ℕ) → settings ≡ load_settings → (fed : IsFed settings load_cells terminal pool x)
    → IsSession None (directory_of load_settings) load_cells x fed.session
fed-session settings terminal pool x are fed =
    let session = fed.session in
    subst (λ (p : Option (List ℕ)). IsSession p (directory_of load_settings) load_cells x session) no_password
    (subst (λ (s : Parts). IsSession s.password (directory_of s) load_cells x session) are (stands_session settings.password (directory_of settings) load_cells terminal x session pool.spare fed.stands))

module _ (seed count : ℕ) (report : Report) (session : Session) (accepted : List Page) (first second : Listener) (words : ℕ) where
  pub is_load : IsSession None (directory_of load_settings) load_cells (characters (drawn_session (draw seed) count)) session → accepted ≡ session.pages
      → HasHeardAll (draw seed) (page_begins (draw seed) count) accepted first second words report.lines report.bytes report.sum report.kept
      → report.pages ≡ length accepted → report.batches ≡ (words - 18) / 17
      → ((c : ℕ) → is_one_of first.capcodes c ≡ is_one_of load_capcodes c) → ((c : ℕ) → is_one_of second.capcodes c ≡ is_one_of load_capcodes c)
      → IsLoad seed count report
  is_load session_is accepted_is h pages_are batches_are listens listens_too =
      let draws = draw seed in
      let k = page_begins (draw seed) count in
      let n = report.batches in
      let size = words_size accepted h.all n h.all_are (batches_are ∙ ap (λ (m : ℕ). (m - 18) / 17) h.words_are) in
      let air = words_bits h.all in
      let bits = noisy_bits air (first_noise draws k (17 * n)) in
      let more_bits = noisy_bits air (second_noise draws k (17 * n)) in
      let one : heard (is_one_of first.capcodes) (noisy_bits air (first_noise_front draws k words)) ≡ heard (is_one_of load_capcodes) bits =
      heard-same (is_one_of first.capcodes) (is_one_of load_capcodes) listens (noisy_bits air (first_noise_front draws k words)) ∙ ap (heard (is_one_of load_capcodes)) (first_bits draws k h.all words n h.words_are size.1) in
      let other : heard (is_one_of second.capcodes) (noisy_bits air (second_noise_front draws k words)) ≡ heard (is_one_of load_capcodes) more_bits =
      heard-same (is_one_of second.capcodes) (is_one_of load_capcodes) listens_too (noisy_bits air (second_noise_front draws k words)) ∙ ap (heard (is_one_of load_capcodes)) (second_bits draws k h.all words n h.words_are size.1) in
      let fine : All IsForOne accepted = subst (All IsForOne) (sym accepted_is) (all_for_one None load_cells (characters (drawn_session draws count)) session session_is) in
      let near = near_first draws k accepted h.all (17 * n) h.all_are size.1 in
      record {
        session = session;
        session_is = session_is;
        air = air;
        is_air = subst (λ (l : List Page). IsAir l air) accepted_is (air_of_words accepted h.all h.all_are);
        pages = pages_are ∙ ap length accepted_is;
        batches = subst (λ (l : List Page). HasBatches l n) accepted_is size.0;
        lines = h.lines.count_is ∙ ap length one ∙ sym (length-map (heard (is_one_of load_capcodes) bits) with_text);
        bytes = h.lines.bytes_is ∙ ap (λ (l : List HeardPage). length (lines_of_pages l)) one;
        sum_is = h.lines.sum_is ∙ ap (λ (l : List HeardPage). sum (lines_of_pages l)) one;
        kept = h.counted.count_is ∙ ap length other ∙ sym (length-map (heard (is_one_of load_capcodes) more_bits) with_text);
        near = λ c. heard_near accepted air bits fine (air_of_words accepted h.all h.all_are) near c ∙ ap (pages_in (λ capcode. capcode == c)) accepted_is;
      }
