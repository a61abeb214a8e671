-- A report counts the pages of its session.
use Rattle.std.proofs.Common.{◌≡◌, ℕ, ◌+◌, ◌*◌, ◌==◌, cond, Bool, true, false, not, List, [], ◌∷◌, ◌++◌, length, replicate, refl, ap, sym, ◌∙◌, length-append, nat_lt, Option, Some, None}
use Rattle.std.proofs.Math.Nat.{mul-one}
use Rattle.std.specs.List.{flat_map}
use Rattle.page_text.specs.FitTest.{fits}
use Rattle.page_pool.specs.Cells.{cells_for}
use Rattle.subscribers.specs.Directory.{Directory}
use Rattle.subscribers.specs.Parts.{Target}
use Rattle.tap_block.specs.Brief.{answer_of}
use Rattle.tap_block.specs.Fields.{content_parts}
use Rattle.tap_block.specs.Reading.{Entry, empty_line, logon, wrong_line, a_block, a_bye, items_of}
use Rattle.tap_block.specs.declared.ends.End.{End as BlockEnd}
use Rattle.tap_block.specs.declared.ends.End.TheVariants.{Etx, Etb, Us}
use Rattle.tap_terminal.specs.declared.answers.Answer.{Answer}
use Rattle.tap_terminal.specs.declared.answers.Answer.TheVariants.{Nak, Rs}
use Rattle.tap_terminal.specs.declared.answers.Reason.{Reason}
use Rattle.tap_terminal.specs.declared.answers.Reason.TheVariants.{Body, Content, Form, Unknown, Text, Room}
use Rattle.tap_terminal.specs.declared.terminal.TheConstants.{LONGEST_CONTENT}
use Rattle.tap_terminal.specs.Reports.{Counter, a_page, counter_number, counter_times, block_counter, counters_by, counters_of}
use Rattle.tap_terminal.specs.Session.{Course, ItemDecided, Session, start, decide, tell, is_end, pages_of, session_of, IsSession}
use Rattle.tap_terminal.specs.Verdict.{Verdict, refused, values_of, fields_for, text_for, room_for, by_end, verdict}
use Rattle.tap_terminal.proofs.Reports.{count_by-append, count_by-replicate}

-- the pages that a list of counters counts
abbrev pages_in : List Counter → ℕ
pages_in counters = counter_times a_page counters

-- a block's pages are counted
abbrev IsBlockCounted : BlockEnd → Verdict → Type 0
IsBlockCounted e v = pages_in (counters_by (block_counter e v.answer) (length v.pages)) ≡ length v.pages

-- a refusal queues no page
refusal_counted : (e : BlockEnd) (reason : Reason) → IsBlockCounted e (refused reason)
refusal_counted e reason = by_block_end e ∙ by_reason reason
  where
    by_block_end : (e : BlockEnd) → pages_in (counters_by (block_counter e (Rs reason)) 0) ≡ pages_in (counters_by (Rattle.tap_terminal.specs.Reports.refusal reason) 0)
    by_block_end Etx = refl
    by_block_end Etb = refl
    by_block_end Us = refl

    by_reason : (r : Reason) → pages_in (counters_by (Rattle.tap_terminal.specs.Reports.refusal r) 0) ≡ 0
    by_reason Body = refl
    by_reason Content = refl
    by_reason Form = refl
    by_reason Unknown = refl
    by_reason Text = refl
    by_reason Room = refl

-- nor does a wrong trailer
nak_counted : (e : BlockEnd) (joined : List ℕ) → IsBlockCounted e (record { answer = Nak; joined = joined; pages = [] })
nak_counted Etx joined = refl
nak_counted Etb joined = refl
nak_counted Us joined = refl

-- one of two verdicts
either_counted : (b : Bool) (e : BlockEnd) (v w : Verdict) → IsBlockCounted e v → IsBlockCounted e w → IsBlockCounted e (cond b v w)
either_counted true e v w h k = h
either_counted false e v w h k = k

-- a last block queues a page for each capcode, and as many are counted
pages_counted : (n : ℕ) → pages_in (replicate n a_page) ≡ n
pages_counted n = count_by-replicate (λ k. counter_number k == 0) n a_page ∙ mul-one n

-- what an id stands for
text_counted : (t : Option Target) (text : List ℕ) (spare : ℕ) → IsBlockCounted Etx (text_for t text spare)
text_counted None text spare = refusal_counted Etx Unknown
text_counted (Some t) text spare =
    either_counted (fits t.function text) Etx _ _
    (either_counted (nat_lt spare (cells_for (length text) * length t.capcodes)) Etx _ _ (refusal_counted Etx Room) (pages_counted _))
    (refusal_counted Etx Text)

-- two fields
fields_counted : (directory : Directory) (spare : ℕ) (o : Option (List ℕ × List ℕ)) → IsBlockCounted Etx (fields_for directory spare o)
fields_counted directory spare None = refusal_counted Etx Form
fields_counted directory spare (Some (id, text)) = text_counted (directory id) text spare

-- a block by its end
end_counted : (directory : Directory) (spare : ℕ) (e : BlockEnd) (content : List ℕ) → IsBlockCounted e (by_end directory spare e content)
end_counted directory spare Etx content = fields_counted directory spare (values_of (content_parts content))
end_counted directory spare Etb content = refl
end_counted directory spare Us content = refl

-- a block
verdict_counted : (directory : Directory) (spare : ℕ) (joined body : List ℕ) (e : BlockEnd) (right : Bool) → IsBlockCounted e (verdict directory spare joined body e right)
verdict_counted directory spare joined body e right =
    either_counted (not right) e _ _ (nak_counted e joined)
    (either_counted (nat_lt 250 (length body)) e _ _ (refusal_counted e Body)
    (either_counted (nat_lt LONGEST_CONTENT (length joined + length body)) e _ _ (refusal_counted e Content) (end_counted directory spare e (joined ++ body))))

-- what an item told is counted as
abbrev counters_told : ItemDecided → List Counter
counters_told t = counters_of (answer_of t.item) t.answer (length t.pages)

-- each item
item_counted : (directory : Directory) (s : Course) (e : Entry) → pages_in (counters_told (decide directory s e).told) ≡ length (decide directory s e).told.pages
item_counted directory s empty_line = refl
item_counted directory s logon = refl
item_counted directory s wrong_line = refl
item_counted directory s (a_block b e right) = verdict_counted directory s.spare s.joined b e right
item_counted directory s a_bye = refl

-- as many pages are counted as were queued
abbrev AreCounted : List ItemDecided → Type 0
AreCounted told = pages_in (flat_map counters_told told) ≡ length (pages_of told)

-- with the items behind one, or without
rest_counted : (b : Bool) (told : List ItemDecided) → AreCounted told → AreCounted (cond b [] told)
rest_counted true told h = refl
rest_counted false told h = h

-- one item in front
more_counted : (t : ItemDecided) (told : List ItemDecided) → pages_in (counters_told t) ≡ length t.pages → AreCounted told → AreCounted (t ∷ told)
more_counted t told h k =
    count_by-append (λ c. counter_number c == 0) (counters_told t) (flat_map counters_told told)
    ∙ ap (λ n. n + pages_in (flat_map counters_told told)) h ∙ ap (λ n. length t.pages + n) k ∙ sym (length-append t.pages (pages_of told))

-- all items
all_counted : (directory : Directory) (s : Course) (items : List Entry) → AreCounted (tell directory s items)
all_counted directory s [] = refl
all_counted directory s (e ∷ es) =
    let now = decide directory s e in
    let rest = tell directory now.course es in
    more_counted now.told (cond (is_end now.told.answer) [] rest) (item_counted directory s e)
    (rest_counted (is_end now.told.answer) rest (all_counted directory now.course es))

-- the report of a session counts its pages
pub session_counted : (password : Option (List ℕ)) (directory : Directory) (spare : ℕ) (x : List ℕ) (session : Session)
    → IsSession password directory spare x session → session.report.pages ≡ length session.pages
session_counted password directory spare x session h =
    ap (λ (s : Session). s.report.pages) h.session_is ∙ all_counted directory (start spare) (items_of password h.pieces) ∙ ap (λ (s : Session). length s.pages) (sym h.session_is)
