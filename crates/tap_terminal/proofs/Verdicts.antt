-- Verdicts, case by case.
use Rattle.std.proofs.Common.{◌≡◌, ℕ, ◌+◌, ◌-◌, ◌<◌, ◌≤◌, ◌==◌, cond, Bool, true, false, not, List, [], ◌∷◌, ◌++◌, length, take, map, refl, ap, sym, ◌∙◌, subst, append-nil, append_assoc, ◌*◌, arith, Option, Some, None, Ok, min, nat_lt, ◌⊎◌, inl, inr}
use Rattle.std.proofs.lemmas.List.{take_all, map-append}
use Rattle.std.proofs.lemmas.Bool.Decides.{nat_tests}
use Rattle.page_text.specs.Page.{Page}
use Rattle.page_text.specs.Fits.{Fits}
use Rattle.page_pool.specs.Cells.{cells_for}
use Rattle.page_pool.specs.Gains.{Gains, cells_of_all, pages_to}
use Rattle.page_pool.specs.Pool.{Pool, Live, pages, page}
use Rattle.page_pool.proofs.Gains.{gains_left}
use Rattle.subscribers.specs.Parts.{Target}
use Rattle.std.proofs.lemmas.List.{length-map}
use Rattle.tap_block.specs.declared.ends.End.{End as BlockEnd}
use Rattle.tap_block.specs.declared.ends.End.TheVariants.{Etx, Etb, Us}
use Rattle.tap_block.specs.declared.faults.FieldFault.{FieldFault}
use Rattle.tap_block.specs.Fields.{AreParts, content_parts, read_field, HasValue, HasFault}
use Rattle.tap_block.specs.Reading.{Entry, empty_line, logon, wrong_line, a_block, a_bye}
use Rattle.tap_block.proofs.Values.{value_read, fault_read}
use Rattle.tap_terminal.specs.declared.answers.Answer.{Answer}
use Rattle.tap_terminal.specs.declared.answers.Judgement.{Judgement}
use Rattle.tap_terminal.specs.declared.answers.Answer.TheVariants.{Ack, Nak, Rs, End}
use Rattle.tap_terminal.specs.declared.answers.Reason.TheVariants.{Body, Content, Form, Text, Room}
use Rattle.tap_terminal.specs.declared.terminal.TheConstants.{LONGEST_CONTENT}
use Rattle.tap_terminal.specs.declared.terminal.Stage.TheVariants.{Open, Ended}
use Rattle.page_text.specs.FitTest.{fits}
use Rattle.subscribers.specs.Directory.{Directory}
use Rattle.tap_terminal.specs.Verdict.{Verdict, refused, both_values, values_of, fields_for, text_for, room_for, judge_content, by_end, verdict}
use Rattle.tap_terminal.specs.Session.{is_end, Course, decide}
use Rattle.tap_terminal.specs.State.{TerminalState, IsVerdictDone, IsItemJudged, said}
use Rattle.tap_block.proofs.PartsOf.{parts_some, parts_none}
use Rattle.page_text.proofs.FitTest.{fits_from_test, test_from_fits}

-- without pages the pool stays
pub refusal_done : (v : Verdict) (judged : Judgement) (pool : Pool) → v.pages ≡ [] → judged.answer ≡ v.answer → judged.pages ≡ 0 → IsVerdictDone v judged pool pool
refusal_done v judged pool h answer none =
    record { answer_is = answer; pages_are = none ∙ ap length (sym h); pool = subst (λ ps. Gains pool pool ps) (sym h) refl }

-- a content without both values is refused
pub form_fault : (directory : Directory) (content : List ℕ) (judged : Judgement) (pool : Pool) → judged.answer ≡ Rs Form → judged.pages ≡ 0
    → values_of (content_parts content) ≡ None → IsVerdictDone (judge_content directory pool.spare content) judged pool pool
form_fault directory content judged pool answer none e =
    subst (λ o. IsVerdictDone (fields_for directory pool.spare o) judged pool pool) (sym e) (refusal_done (refused Form) judged pool refl answer none)

-- a content of no two parts
pub no_values : (content : List ℕ) → ((a b : List ℕ) → AreParts content a b → ⊥) → values_of (content_parts content) ≡ None
no_values content h = ap values_of (parts_none content h)

-- the first field has no value
pub no_first : (content a b : List ℕ) (fault : FieldFault) → AreParts content a b → HasFault a fault → values_of (content_parts content) ≡ None
no_first content a b fault p e = ap values_of (parts_some content a b p) ∙ ap (λ r. both_values r (read_field b)) (fault_read a fault e)

-- the second field has no value
pub no_second : (content a b v : List ℕ) (fault : FieldFault) → AreParts content a b → HasValue a v → HasFault b fault → values_of (content_parts content) ≡ None
no_second content a b v fault p e f =
    ap values_of (parts_some content a b p) ∙ ap (λ r. both_values r (read_field b)) (value_read a v e) ∙ ap (λ r. both_values (Ok v) r) (fault_read b fault f)

-- both fields have a value
pub both_read : (content a b v w : List ℕ) → AreParts content a b → HasValue a v → HasValue b w → values_of (content_parts content) ≡ Some (v, w)
both_read content a b v w p e f =
    ap values_of (parts_some content a b p) ∙ ap (λ r. both_values r (read_field b)) (value_read a v e) ∙ ap (λ r. both_values (Ok v) r) (value_read b w f)

-- a content with both values is answered as these
pub fields_done : (directory : Directory) (content v w : List ℕ) (answer : Judgement) (before after : Pool) → values_of (content_parts content) ≡ Some (v, w)
    → IsVerdictDone (text_for (directory v) w before.spare) answer before after → IsVerdictDone (judge_content directory before.spare content) answer before after
fields_done directory content v w answer before after e h =
    subst (λ o. IsVerdictDone (fields_for directory before.spare o) answer before after) (sym e) h

-- a text that doesn't fit
pub misfit_done : (o : Option Target) (t : Target) (text : List ℕ) (judged : Judgement) (pool : Pool) → judged.answer ≡ Rs Text → judged.pages ≡ 0
    → o ≡ Some t → ¬ Fits t.function text → IsVerdictDone (text_for o text pool.spare) judged pool pool
misfit_done o t text judged pool answer none e h =
    subst (λ z. IsVerdictDone (text_for z text pool.spare) judged pool pool) (sym e) (by_test (fits t.function text) refl)
  where
    by_test : (b : Bool) → fits t.function text ≡ b → IsVerdictDone (cond b (room_for t text pool.spare) (refused Text)) judged pool pool
    by_test true k = absurd (h (fits_from_test t.function text k))
    by_test false k = refusal_done (refused Text) judged pool refl answer none

-- the answer of a text that fits
fitting : (t : Target) (text : List ℕ) (spare : ℕ) → Fits t.function text → text_for (Some t) text spare ≡ room_for t text spare
fitting t text spare h = ap (λ b. cond b (room_for t text spare) (refused Text)) (test_from_fits t.function text h)

-- a text with room for all capcodes
abbrev all_put : Target → List ℕ → Verdict
all_put t text = record { answer = Ack; joined = []; pages = pages_to t.capcodes t.function text }

-- a text without room
pub full_done : (o : Option Target) (t : Target) (text : List ℕ) (judged : Judgement) (before after : Pool) → judged.answer ≡ Rs Room → judged.pages ≡ 0
    → o ≡ Some t → Fits t.function text → before.spare < cells_for (length text) * length t.capcodes → after ≡ before
    → IsVerdictDone (text_for o text before.spare) judged before after
full_done o t text judged before after answer none e h full same =
    let b : nat_lt before.spare (cells_for (length text) * length t.capcodes) ≡ true = grind (arith, nat_tests) in
    subst (λ z. IsVerdictDone (text_for z text before.spare) judged before after) (sym e)
    (subst (λ v. IsVerdictDone v judged before after) (sym (fitting t text before.spare h ∙ ap (λ b. cond b (refused Room) (all_put t text)) b))
    (record { answer_is = answer; pages_are = none; pool = same }))

-- a text with room
pub put_done : (o : Option Target) (t : Target) (text : List ℕ) (count : ℕ) (before after : Pool) → o ≡ Some t → Fits t.function text → count ≡ length t.capcodes
    → cells_for (length text) * length t.capcodes ≤ before.spare → Gains before after (pages_to t.capcodes t.function text)
    → IsVerdictDone (text_for o text before.spare) (record { answer = Ack; pages = count }) before after
put_done o t text count before after e h counted room gains =
    let b : nat_lt before.spare (cells_for (length text) * length t.capcodes) ≡ false = grind (arith, nat_tests) in
    subst (λ z. IsVerdictDone (text_for z text before.spare) (record { answer = Ack; pages = count }) before after) (sym e)
    (subst (λ v. IsVerdictDone v (record { answer = Ack; pages = count }) before after) (sym (fitting t text before.spare h ∙ ap (λ b. cond b (refused Room) (all_put t text)) b))
    (record { answer_is = refl; pages_are = counted ∙ sym (length-map t.capcodes (λ c. page c t.function text)); pool = gains }))

-- the pages that are live then
pub gains_pages : (before after : Pool) (gained : List Page) → Gains before after gained → pages after ≡ pages before ++ gained
gains_pages before after [] h = ap pages h ∙ sym (append-nil (pages before))
gains_pages before after (p ∷ ps) h =
    let put = h.1 in
    let one : pages h.0 ≡ pages before ++ p ∷ [] = ap (map (λ (e : Live). e.page)) put.at_end ∙ map-append (λ (e : Live). e.page) before.live (put.entry ∷ []) ∙ ap (λ z. pages before ++ z ∷ []) put.is in
    gains_pages h.0 after ps h.2 ∙ ap (λ z. z ++ ps) one ∙ append_assoc (pages before) (p ∷ []) ps

-- no verdict on a text is End, and each leaves no content
record Closes (v : Verdict) : Type 0 where
  no_end : is_end v.answer ≡ false
  joined : v.joined ≡ []

-- a text
text_closes : (s : Option Target) (text : List ℕ) (spare : ℕ) → Closes (text_for s text spare)
text_closes None text spare = record { no_end = refl; joined = refl }
text_closes (Some s) text spare = by_fits (fits s.function text)
  where
    by_room : (b : Bool) (v : Verdict) → Closes v → Closes (cond b (refused Room) v)
    by_room true v h = record { no_end = refl; joined = refl }
    by_room false v h = h

    by_fits : (b : Bool) → Closes (cond b (room_for s text spare) (refused Text))
    by_fits true = by_room (nat_lt spare (cells_for (length text) * length s.capcodes)) _ (record { no_end = refl; joined = refl })
    by_fits false = record { no_end = refl; joined = refl }

-- two fields
fields_close : (directory : Directory) (spare : ℕ) (o : Option (List ℕ × List ℕ)) → Closes (fields_for directory spare o)
fields_close directory spare None = record { no_end = refl; joined = refl }
fields_close directory spare (Some (id, text)) = text_closes (directory id) text spare

-- no verdict on a content is End
pub content_no_end : (directory : Directory) (spare : ℕ) (content : List ℕ) → is_end (judge_content directory spare content).answer ≡ false
content_no_end directory spare content = (fields_close directory spare (values_of (content_parts content))).no_end

-- each leaves no content
pub content_joined : (directory : Directory) (spare : ℕ) (content : List ℕ) → (judge_content directory spare content).joined ≡ []
content_joined directory spare content = (fields_close directory spare (values_of (content_parts content))).joined

-- a kept body of at most 250 characters is the body
pub kept_whole : (b kept : List ℕ) (size : ℕ) → size ≡ min (length b) 251 → kept ≡ take 250 b → size ≤ 250 → kept ≡ b
kept_whole b kept size h e k = e ∙ take_all 250 b (omega arith)

-- its length
pub small_body : (b : List ℕ) (size : ℕ) → size ≡ min (length b) 251 → size ≤ 250 → length b ≤ 250
small_body b size h k = omega arith

-- the verdict on a content that is too long
pub verdict_content : (directory : Directory) (spare : ℕ) (j b : List ℕ) (e : BlockEnd) (right : Bool) → right ≡ true → length b ≤ 250 → LONGEST_CONTENT < length j + length b
    → verdict directory spare j b e right ≡ refused Content
verdict_content directory spare j b e right r small big =
    let t : nat_lt 250 (length b) ≡ false = grind (arith, nat_tests) in
    let u : nat_lt LONGEST_CONTENT (length j + length b) ≡ true = grind (arith, nat_tests) in
    rw (r, t, u) refl

-- the verdict by the end
pub verdict_rest : (directory : Directory) (spare : ℕ) (j b : List ℕ) (e : BlockEnd) (right : Bool) → right ≡ true → length b ≤ 250 → length j + length b ≤ LONGEST_CONTENT
    → verdict directory spare j b e right ≡ by_end directory spare e (j ++ b)
verdict_rest directory spare j b e right r small big =
    let t : nat_lt 250 (length b) ≡ false = grind (arith, nat_tests) in
    let u : nat_lt LONGEST_CONTENT (length j + length b) ≡ false = grind (arith, nat_tests) in
    rw (r, t, u) refl

-- the verdict on a transaction that goes on
pub goes_on_by : (directory : Directory) (spare : ℕ) (e : BlockEnd) (content : List ℕ) → (e ≡ Etb) ⊎ (e ≡ Us) → by_end directory spare e content ≡ record { answer = Ack; joined = content; pages = [] }
goes_on_by directory spare e content (inl h) = ap (λ k. by_end directory spare k content) h
goes_on_by directory spare e content (inr h) = ap (λ k. by_end directory spare k content) h

-- a block was judged by its verdict
pub judged_by : (directory : Directory) (t : TerminalState) (j' b : List ℕ) (e : BlockEnd) (right : Bool) (judged : Judgement) (before after : Pool) (v : Verdict)
    → verdict directory before.spare t.joined b e right ≡ v → IsVerdictDone v judged before after → j' ≡ v.joined → t.stage ≡ Open → is_end v.answer ≡ false
    → IsItemJudged directory t (record t { joined = j' }) (a_block b e right) judged before after
judged_by directory t j' b e right judged before after v h done joined opened no_end = record {
  answer_is = done.answer_is ∙ sym (ap (λ (z : Verdict). z.answer) h);
  pages_are = done.pages_are ∙ sym (ap (λ (z : Verdict). length z.pages) h);
  course = ap (λ (z : Verdict). record { joined = z.joined; spare = before.spare - cells_of_all z.pages; wrong = t.wrong }) h
      ∙ rw (← joined, ← gains_left before after v.pages done.pool) refl;
  stage = opened ∙ sym (ap (λ z. cond z Ended Open) (ap is_end done.answer_is ∙ no_end));
  pool = subst (λ (z : Verdict). Gains before after z.pages) (sym h) done.pool;
}

-- each verdict is said
abbrev pub IsSaid : Answer → Type 0
IsSaid answer = said answer ≡ answer ∷ []

-- a verdict on a text is said
text_said : (s : Option Target) (text : List ℕ) (spare : ℕ) → IsSaid (text_for s text spare).answer
text_said None text spare = refl
text_said (Some s) text spare = by_fits (fits s.function text)
  where
    by_room : (b : Bool) (v : Verdict) → IsSaid v.answer → IsSaid (cond b (refused Room) v).answer
    by_room true v h = refl
    by_room false v h = h

    by_fits : (b : Bool) → IsSaid (cond b (room_for s text spare) (refused Text)).answer
    by_fits true = by_room (nat_lt spare (cells_for (length text) * length s.capcodes)) _ refl
    by_fits false = refl

-- a verdict on two fields is said
fields_said : (directory : Directory) (spare : ℕ) (o : Option (List ℕ × List ℕ)) → IsSaid (fields_for directory spare o).answer
fields_said directory spare None = refl
fields_said directory spare (Some (id, text)) = text_said (directory id) text spare

-- a verdict by the end is said
end_said : (directory : Directory) (spare : ℕ) (e : BlockEnd) (content : List ℕ) → IsSaid (by_end directory spare e content).answer
end_said directory spare Etx content = fields_said directory spare (values_of (content_parts content))
end_said directory spare Etb content = refl
end_said directory spare Us content = refl

-- a verdict is said
pub verdict_said : (directory : Directory) (spare : ℕ) (j b : List ℕ) (e : BlockEnd) (right : Bool) → IsSaid (verdict directory spare j b e right).answer
verdict_said directory spare j b e right = first right
  where
    third : (r : Bool) → IsSaid (cond r (refused Content) (by_end directory spare e (j ++ b))).answer
    third true = refl
    third false = end_said directory spare e (j ++ b)

    second : (r : Bool) → IsSaid (cond r (refused Body) (cond (nat_lt LONGEST_CONTENT (length j + length b)) (refused Content) (by_end directory spare e (j ++ b)))).answer
    second true = refl
    second false = third (nat_lt LONGEST_CONTENT (length j + length b))

    first : (r : Bool) → IsSaid (cond (not r) (record { answer = Nak; joined = j; pages = [] }) (cond (nat_lt 250 (length b)) (refused Body) (cond (nat_lt LONGEST_CONTENT (length j + length b)) (refused Content) (by_end directory spare e (j ++ b))))).answer
    first true = second (nat_lt 250 (length b))
    first false = refl

-- each item is answered
pub item_said : (directory : Directory) (s : Course) (e : Entry) → IsSaid (decide directory s e).told.answer
item_said directory s empty_line = refl
item_said directory s logon = refl
item_said directory s wrong_line = third (s.wrong == 2)
  where
    third : (b : Bool) → IsSaid (cond b End Nak)
    third true = refl
    third false = refl
item_said directory s (a_block b e right) = verdict_said directory s.spare s.joined b e right
item_said directory s a_bye = refl
