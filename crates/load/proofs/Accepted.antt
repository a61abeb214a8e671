-- The pages that a session accepts are to the capcodes of ids of its directory, with texts that fit.
use Rattle.std.proofs.Common.{◌≡◌, ℕ, ◌+◌, ◌++◌, ◌*◌, Bool, true, false, cond, not, nat_lt, List, [], ◌∷◌, length, Option, Some, None, refl, sym, subst}
use Rattle.std.specs.Prelude.{All}
use Rattle.std.proofs.lemmas.List.Elements.{All-nil, All-append, All-map}
use Rattle.page_pool.specs.Cells.{cells_for}
use Rattle.page_pool.specs.Gains.{pages_to}
use Rattle.page_pool.specs.Pool.{page}
use Rattle.page_text.specs.FitTest.{fits}
use Rattle.page_text.specs.Fits.{Fits}
use Rattle.page_text.specs.Page.{Page}
use Rattle.page_text.proofs.FitTest.{fits_from_test}
use Rattle.subscribers.specs.Directory.{Directory}
use Rattle.subscribers.specs.Parts.{Target}
use Rattle.tap_block.specs.Fields.{content_parts}
use Rattle.tap_block.specs.Reading.{Entry, empty_line, logon, wrong_line, a_block, a_bye, items_of}
use Rattle.tap_block.specs.declared.ends.End.{End}
use Rattle.tap_block.specs.declared.ends.End.TheVariants.{Etx, Etb, Us}
use Rattle.tap_terminal.specs.Session.{Course, Decided, IsSession, ItemDecided, Session, decide, is_end, pages_of, start, tell}
use Rattle.tap_terminal.specs.Verdict.{Verdict, by_end, fields_for, refused, room_for, text_for, values_of, verdict}
use Rattle.tap_terminal.specs.declared.terminal.TheConstants.{LONGEST_CONTENT}
use Rattle.tap_terminal.specs.declared.answers.Answer.TheVariants.{Ack, Nak}
use Rattle.tap_terminal.specs.declared.answers.Reason.TheVariants.{Body, Content, Room, Text}

-- each page of a text to the capcodes of an id is good
abbrev pub AreGood : (Page → Type 0) → Target → List ℕ → Type 0
AreGood Good t text = All (λ c. Good (page c t.function text)) t.capcodes

module _ (Good : Page → Type 0) where
  All-by_test : (b : Bool) (v w : Verdict) → All Good v.pages → All Good w.pages → All Good (cond b v w).pages
  All-by_test true v w h k = h
  All-by_test false v w h k = k

  All-room_for : (t : Target) (text : List ℕ) (spare : ℕ) → AreGood Good t text → All Good (room_for t text spare).pages
  All-room_for t text spare h =
      All-by_test (nat_lt spare (cells_for (length text) * length t.capcodes)) (refused Room) (record { answer = Ack; joined = []; pages = pages_to t.capcodes t.function text }) (All-nil Good)
      (All-map Good (λ c. page c t.function text) t.capcodes h)

  All-by_fits : (b : Bool) (t : Target) (text : List ℕ) (spare : ℕ) → fits t.function text ≡ b → (Fits t.function text → AreGood Good t text)
      → All Good (cond b (room_for t text spare) (refused Text)).pages
  All-by_fits true t text spare e h = All-room_for t text spare (h (fits_from_test t.function text e))
  All-by_fits false t text spare e h = All-nil Good

  All-text_for : (o : Option Target) (text : List ℕ) (spare : ℕ) → ((t : Target) → o ≡ Some t → Fits t.function text → AreGood Good t text) → All Good (text_for o text spare).pages
  All-text_for None text spare h = All-nil Good
  All-text_for (Some t) text spare h = All-by_fits (fits t.function text) t text spare refl (h t refl)

  All-cond : (b : Bool) (told : List ItemDecided) → All Good (pages_of told) → All Good (pages_of (cond b [] told))
  All-cond true told h = All-nil Good
  All-cond false told h = h

  module _ (directory : Directory) (good : (id : List ℕ) (t : Target) (text : List ℕ) → directory id ≡ Some t → Fits t.function text → AreGood Good t text) where
    All-fields_for : (spare : ℕ) (o : Option (List ℕ × List ℕ)) → All Good (fields_for directory spare o).pages
    All-fields_for spare None = All-nil Good
    All-fields_for spare (Some p) = All-text_for (directory p.0) p.1 spare (λ t e f. good p.0 t p.1 e f)

    All-by_end : (spare : ℕ) (e : End) (content : List ℕ) → All Good (by_end directory spare e content).pages
    All-by_end spare Etx content = All-fields_for spare (values_of (content_parts content))
    All-by_end spare Etb content = All-nil Good
    All-by_end spare Us content = All-nil Good

    All-verdict : (spare : ℕ) (joined body : List ℕ) (e : End) (right : Bool) → All Good (verdict directory spare joined body e right).pages
    All-verdict spare joined body e right =
        let three : Verdict = by_end directory spare e (joined ++ body) in
        let two : Verdict = cond (nat_lt LONGEST_CONTENT (length joined + length body)) (refused Content) three in
        let one : Verdict = cond (nat_lt 250 (length body)) (refused Body) two in
        All-by_test (not right) (record { answer = Nak; joined = joined; pages = [] }) one (All-nil Good)
        (All-by_test (nat_lt 250 (length body)) (refused Body) two (All-nil Good)
        (All-by_test (nat_lt LONGEST_CONTENT (length joined + length body)) (refused Content) three (All-nil Good) (All-by_end spare e (joined ++ body))))

    All-decide : (s : Course) (e : Entry) → All Good (decide directory s e).told.pages
    All-decide s empty_line = All-nil Good
    All-decide s logon = All-nil Good
    All-decide s wrong_line = All-nil Good
    All-decide s (a_block body e right) = All-verdict s.spare s.joined body e right
    All-decide s a_bye = All-nil Good

    All-tell : (s : Course) (es : List Entry) → All Good (pages_of (tell directory s es))
    All-tell s [] = All-nil Good
    All-tell s (e ∷ es) =
        let d : Decided = decide directory s e in
        let later : List ItemDecided = tell directory d.course es in
        All-append Good d.told.pages (pages_of (cond (is_end d.told.answer) [] later)) (All-decide s e)
        (All-cond (is_end d.told.answer) later (All-tell d.course es))

    -- each page of a session is good
    pub All-session : (password : Option (List ℕ)) (spare : ℕ) (x : List ℕ) (session : Session) → IsSession password directory spare x session → All Good session.pages
    All-session password spare x session h =
        subst (λ (s : Session). All Good s.pages) (sym h.session_is) (All-tell (start spare) (items_of password h.pieces))
