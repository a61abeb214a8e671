-- Replies are shorter than what they answer.
use Rattle.std.proofs.Common.{◌≡◌, ℕ, ◌+◌, ◌*◌, ◌≤◌, cond, Bool, true, false, List, [], ◌∷◌, ◌++◌, length, ap, ◌∙◌, arith, Option, Some, None, nat_lt, length-append}
use Rattle.tap_block.specs.declared.ends.End.{End}
use Rattle.tap_block.specs.declared.ends.End.TheVariants.{Etx, Etb, Us}
use Rattle.tap_block.specs.Chars.{stx, end_char}
use Rattle.tap_block.specs.Fields.{content_parts}
use Rattle.tap_block.specs.Reading.{AfterLogon, InputPiece, line, skipped, lone_eot, bye, dropped, block, piece_text, Reads, IsTrailer, a_block, is_right, items_of}
use Rattle.subscribers.specs.Parts.{Target}
use Rattle.tap_terminal.specs.declared.answers.Reason.TheVariants.{Room, Text, Body, Content}
use Rattle.tap_terminal.specs.declared.answers.Answer.TheVariants.{Ack}
use Rattle.page_text.specs.FitTest.{fits}
use Rattle.page_pool.specs.Cells.{cells_for}
use Rattle.page_pool.specs.Gains.{pages_to}
use Rattle.subscribers.specs.Directory.{Directory}
use Rattle.tap_terminal.specs.Verdict.{Verdict, refused, values_of, room_for, text_for, fields_for, by_end, verdict}
use Rattle.tap_terminal.specs.declared.terminal.TheConstants.{LONGEST_CONTENT}
use Rattle.tap_terminal.specs.Session.{Course, is_end, decided, tell, answers_of}
use Rattle.tap_terminal.specs.Replies.{reply_of, replies}

abbrev IsShort : Verdict → Type 0
IsShort v = length (reply_of v.answer) ≤ 2

short_room : (t : Target) (text : List ℕ) (spare : ℕ) → IsShort (room_for t text spare)
short_room t text spare = by_test (nat_lt spare (cells_for (length text) * length t.capcodes))
  where
    by_test : (b : Bool) → IsShort (cond b (refused Room) (record { answer = Ack; joined = []; pages = pages_to t.capcodes t.function text }))
    by_test true = omega arith
    by_test false = omega arith

short_text : (o : Option Target) (text : List ℕ) (spare : ℕ) → IsShort (text_for o text spare)
short_text None text spare = omega arith
short_text (Some t) text spare = by_test (fits t.function text)
  where
    by_test : (b : Bool) → IsShort (cond b (room_for t text spare) (refused Text))
    by_test true = short_room t text spare
    by_test false = omega arith

short_fields : (table : Directory) (spare : ℕ) (o : Option (List ℕ × List ℕ)) → IsShort (fields_for table spare o)
short_fields table spare None = omega arith
short_fields table spare (Some (id, t)) = short_text (table id) t spare

short_end : (table : Directory) (spare : ℕ) (e : End) (x : List ℕ) → IsShort (by_end table spare e x)
short_end table spare Etx x = short_fields table spare (values_of (content_parts x))
short_end table spare Etb x = omega arith
short_end table spare Us x = omega arith

short_verdict : (table : Directory) (spare : ℕ) (joined b : List ℕ) (e : End) (right : Bool) → IsShort (verdict table spare joined b e right)
short_verdict table spare joined b e false = omega arith
short_verdict table spare joined b e true = by_tests (nat_lt 250 (length b)) (nat_lt LONGEST_CONTENT (length joined + length b))
  where
    by_tests : (c d : Bool) → IsShort (cond c (refused Body) (cond d (refused Content) (by_end table spare e (joined ++ b))))
    by_tests true d = omega arith
    by_tests false true = omega arith
    by_tests false false = short_end table spare e (joined ++ b)

trailer_some : (t : List ℕ) → IsTrailer t → 1 ≤ length t
trailer_some [] h = elim h [ ]
trailer_some (c ∷ t) h = omega arith

-- after the logon three characters of reply come with two at least, and one reply more at the end
pub short_replies : (password : Option (List ℕ)) (table : Directory) (ps : List InputPiece) (r x : List ℕ) (s : Course) → Reads password AfterLogon ps r x
    → 3 * length (replies (answers_of (tell table s (items_of password ps)))) ≤ 2 * length x + 9
short_replies password table [] r x s h = omega arith
short_replies password table (line l ∷ ps) r x s h = elim h.2 [ ]
short_replies password table (skipped c ∷ ps) r x s h =
    let k = short_replies password table ps r h.0 s h.3 in let e = ap length h.1 in omega (arith, k, e)
short_replies password table (lone_eot ∷ ps) r x s h =
    let k = short_replies password table ps r h.0 s h.3 in let e = ap length h.1 in omega (arith, k, e)
short_replies password table (dropped b ∷ ps) r x s h =
    let k = short_replies password table ps r h.0 s h.3 in let e = ap length h.1 ∙ length-append (stx ∷ b) h.0 in omega (arith, k, e)
short_replies password table (bye ∷ ps) r x s h = omega arith
short_replies password table (block b e t ∷ ps) r x s h =
    let v = verdict table s.spare s.joined b e (is_right b e t) in
    let d = decided (a_block b e (is_right b e t)) s v in
    let k = short_replies password table ps r h.0 d.course h.3 in
    let q = ap length h.1 ∙ length-append (piece_text (block b e t)) h.0 in
    let w = length-append (stx ∷ b) (end_char e ∷ t) in
    let u = trailer_some t h.2.1 in
    by_end_of (is_end v.answer) (short_verdict table s.spare s.joined b e (is_right b e t)) k q w u
  where
    by_end_of : (c : Bool) → length (reply_of (verdict table s.spare s.joined b e (is_right b e t)).answer) ≤ 2
        → 3 * length (replies (answers_of (tell table (decided (a_block b e (is_right b e t)) s (verdict table s.spare s.joined b e (is_right b e t))).course (items_of password ps)))) ≤ 2 * length h.0 + 9
        → length x ≡ length (piece_text (block b e t)) + length h.0 → length (piece_text (block b e t)) ≡ length (stx ∷ b) + length (end_char e ∷ t) → 1 ≤ length t
        → 3 * length (reply_of (verdict table s.spare s.joined b e (is_right b e t)).answer ++ replies (answers_of (cond c [] (tell table (decided (a_block b e (is_right b e t)) s (verdict table s.spare s.joined b e (is_right b e t))).course (items_of password ps))))) ≤ 2 * length x + 9
    by_end_of true a k q w u = let l = length-append (reply_of (verdict table s.spare s.joined b e (is_right b e t)).answer) [] in omega (arith, a, l, q, w, u)
    by_end_of false a k q w u = let l = length-append (reply_of (verdict table s.spare s.joined b e (is_right b e t)).answer) (replies (answers_of (tell table (decided (a_block b e (is_right b e t)) s (verdict table s.spare s.joined b e (is_right b e t))).course (items_of password ps)))) in omega (arith, a, k, l, q, w, u)
