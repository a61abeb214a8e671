-- How many bits a transmission has, by the cells of its pages, and how many cells the pages of a TAP session take and how much is said in it.
use Rattle.std.proofs.Common.{suc, length-take, take, ◌∙◌, ◌≡◌, ℕ, ◌+◌, ◌*◌, ◌/◌, ◌≤◌, Bool, true, false, cond, not, nat_lt, List, [], ◌∷◌, ◌++◌, length, length-append, map, Option, Some, None, refl, sym, ap, subst, arith}
use Rattle.std.proofs.lemmas.Bool.{ltb-false}
use Rattle.std.proofs.lemmas.List.{length-map}
use Rattle.std.proofs.Math.Nat.{mul-suc}
use Rattle.codeword.specs.declared.functions.Function.{Function}
use Rattle.std.proofs.lemmas.List.Sums.{sum_by-cons}
use Rattle.std.specs.List.{sum_by}
use Rattle.air.specs.Air.{IsAir, transmission}
use Rattle.bits.proofs.Lengths.{length-words_bits}
use Rattle.page_pool.specs.Cells.{cells_for, cells_of}
use Rattle.page_pool.specs.Gains.{cells_of_all, pages_to}
use Rattle.page_pool.specs.Pool.{page}
use Rattle.page_text.specs.Page.{Page}
use Rattle.subscribers.specs.Parts.{Parts, Target}
use Rattle.tap_block.specs.Fields.{content_parts}
use Rattle.tap_block.specs.Reading.{BeforeLogon, Entry, empty_line, logon, wrong_line, a_block, a_bye, items_of}
use Rattle.tap_block.specs.declared.ends.End.{End}
use Rattle.tap_block.specs.declared.ends.End.TheVariants.{Etx, Etb, Us}
use Rattle.entry_line.specs.Chars.{char_of}
use Rattle.tap_block.specs.Chars.{characters}
use Rattle.tap_terminal.specs.Replies.{replies}
use Rattle.both_ends.proofs.JoinedLimit.{closing_one, items_few, replies_short, told_few}
use Rattle.subscribers.specs.Directory.{Directory, directory_of}
use Rattle.tap_terminal.specs.Session.{answers_of, closing, Course, Decided, Session, ItemDecided, decide, is_end, pages_of, start, tell}
use Rattle.page_text.specs.FitTest.{fits}
use Rattle.tap_terminal.specs.Verdict.{Verdict, by_end, fields_for, refused, room_for, text_for, values_of, verdict}
use Rattle.tap_terminal.specs.declared.terminal.TheConstants.{LONGEST_CONTENT}
use Rattle.tap_terminal.specs.declared.answers.Answer.TheVariants.{Ack, Nak}
use Rattle.tap_terminal.specs.declared.answers.Reason.TheVariants.{Body, Content, Room, Text}
use Rattle.station.specs.AirRoom.{most_air}
use Rattle.serving.specs.TapSessions.{SessionOf}
use Rattle.serving.proofs.FewWords.{length-transmission, slots_by_cells}

-- ---- the bits of a transmission, by the cells of its pages

pub air_few : (pages : List Page) (bits : List Bool) (spare : ℕ) → IsAir pages bits → sum_by cells_of pages ≤ spare → length bits ≤ 8 * most_air spare
air_few [] bits spare h le = omega (arith, ap length h)
air_few (page ∷ pages) bits spare h le =
    let n = slots_by_cells page pages h.0 spare h.1 le in
    omega (arith, ap length h.2, length-words_bits (transmission h.0), length-transmission h.0, n)

-- ---- the cells of a session's pages

abbrev IsWithin : ℕ → List Page → Type 0
IsWithin spare pages = cells_of_all pages ≤ spare

within-cond : (b : Bool) (spare : ℕ) (v w : Verdict) → IsWithin spare v.pages → IsWithin spare w.pages → IsWithin spare (cond b v w).pages
within-cond true spare v w h k = h
within-cond false spare v w h k = k

-- a page to each capcode takes as many cells
cells-pages_to : (capcodes : List ℕ) (function : Function) (text : List ℕ) → cells_of_all (pages_to capcodes function text) ≡ cells_for (length text) * length capcodes
cells-pages_to [] function text = omega arith
cells-pages_to (c ∷ cs) function text =
    let more = cells-pages_to cs function text in
    let one : cells_for (length text) * suc (length cs) ≡ cells_for (length text) * length cs + cells_for (length text) = mul-suc (cells_for (length text)) (length cs) in
    omega (arith, more, one)

within-room_for : (t : Target) (text : List ℕ) (spare : ℕ) → IsWithin spare (room_for t text spare).pages
within-room_for t text spare = by_test (nat_lt spare (cells_for (length text) * length t.capcodes)) refl
  where
    by_test : (b : Bool) → nat_lt spare (cells_for (length text) * length t.capcodes) ≡ b
        → IsWithin spare (cond b (refused Room) (record { answer = Ack; joined = []; pages = pages_to t.capcodes t.function text })).pages
    by_test true e = omega arith
    by_test false e =
        let fit = ltb-false spare (cells_for (length text) * length t.capcodes) e in
        subst (λ (n : ℕ). n ≤ spare) (sym (cells-pages_to t.capcodes t.function text)) fit

within-text_for : (o : Option Target) (text : List ℕ) (spare : ℕ) → IsWithin spare (text_for o text spare).pages
within-text_for None text spare = omega arith
within-text_for (Some t) text spare = within-cond (fits t.function text) spare (room_for t text spare) (refused Text) (within-room_for t text spare) (omega arith)

module _ (directory : Directory) where
  within-fields_for : (spare : ℕ) (o : Option (List ℕ × List ℕ)) → IsWithin spare (fields_for directory spare o).pages
  within-fields_for spare None = omega arith
  within-fields_for spare (Some p) = within-text_for (directory p.0) p.1 spare

  within-by_end : (spare : ℕ) (e : End) (content : List ℕ) → IsWithin spare (by_end directory spare e content).pages
  within-by_end spare Etx content = within-fields_for spare (values_of (content_parts content))
  within-by_end spare Etb content = omega arith
  within-by_end spare Us content = omega arith

  within-verdict : (spare : ℕ) (joined body : List ℕ) (e : End) (right : Bool) → IsWithin spare (verdict directory spare joined body e right).pages
  within-verdict spare joined body e right =
      let three : Verdict = by_end directory spare e (joined ++ body) in
      let two : Verdict = cond (nat_lt LONGEST_CONTENT (length joined + length body)) (refused Content) three in
      let one : Verdict = cond (nat_lt 250 (length body)) (refused Body) two in
      within-cond (not right) spare (record { answer = Nak; joined = joined; pages = [] }) one (omega arith)
      (within-cond (nat_lt 250 (length body)) spare (refused Body) two (omega arith)
      (within-cond (nat_lt LONGEST_CONTENT (length joined + length body)) spare (refused Content) three (omega arith) (within-by_end spare e (joined ++ body))))

  within-decide : (s : Course) (e : Entry) → cells_of_all (decide directory s e).told.pages + (decide directory s e).course.spare ≤ s.spare
  within-decide s empty_line = omega arith
  within-decide s logon = omega arith
  within-decide s wrong_line = omega arith
  within-decide s (a_block body e right) = let h = within-verdict s.spare s.joined body e right in omega (arith, h)
  within-decide s a_bye = omega arith

  cells-all : (own pages : List Page) → sum_by cells_of (own ++ pages) ≡ cells_of_all own + sum_by cells_of pages
  cells-all [] pages = omega arith
  cells-all (p ∷ own) pages = omega (arith, sum_by-cons cells_of p (own ++ pages), cells-all own pages)

  cells-cond : (b : Bool) (told : List ItemDecided) (n : ℕ) → sum_by cells_of (pages_of told) ≤ n → sum_by cells_of (pages_of (cond b [] told)) ≤ n
  cells-cond true told n h = omega arith
  cells-cond false told n h = h

  cells-tell : (s : Course) (es : List Entry) → sum_by cells_of (pages_of (tell directory s es)) ≤ s.spare
  cells-tell s [] = omega arith
  cells-tell s (e ∷ es) =
      let d : Decided = decide directory s e in
      let later : List ItemDecided = tell directory d.course es in
      let rest = cells-cond (is_end d.told.answer) later d.course.spare (cells-tell d.course es) in
      let w = within-decide s e in
      omega (arith, cells-all d.told.pages (pages_of (cond (is_end d.told.answer) [] later)), rest, w)

-- the pages of a session take no more cells than were spare
pub pages_within : (settings : Parts) (spare : ℕ) (bytes : List ℕ) (session : Session) → SessionOf settings spare bytes session → sum_by cells_of session.pages ≤ spare
pages_within settings spare bytes session h =
    subst (λ (s : Session). sum_by cells_of s.pages ≤ spare) (sym h.session_is) (cells-tell (directory_of settings) (start spare) (items_of settings.password h.pieces))

-- ---- replies

pub replies_few : (settings : Parts) (spare : ℕ) (bytes : List ℕ) (session : Session) → SessionOf settings spare bytes session → length (replies session.answers) ≤ 6 * length bytes + 6
replies_few settings spare bytes session h =
    let x = characters bytes in
    let told = tell (directory_of settings) (start spare) (items_of settings.password h.pieces) in
    let a = replies_short session.answers in
    let b = ap (λ (s : Session). length s.answers) h.session_is ∙ length-append (answers_of told) (closing told (length x)) in
    let c = closing_one told (length x) in
    let d = told_few (directory_of settings) (start spare) (items_of settings.password h.pieces) in
    let e = items_few settings.password BeforeLogon h.pieces h.rest (take 999999 x) h.reads in
    let f : length (take 999999 x) ≤ length x = simp length-take (omega arith) in
    let g : length x ≡ length bytes = length-map bytes char_of in
    omega (arith, a, b, c, d, e, f, g)
