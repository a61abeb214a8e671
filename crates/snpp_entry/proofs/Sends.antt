-- Pages are queued at each SEND that is answered 250 OK, and at no other line.
use Rattle.std.proofs.Common.{◌≡◌, ℕ, ◌+◌, ◌*◌, ◌≤◌, ◌⊎◌, inl, inr, cond, Bool, true, false, ◌&&◌, List, [], ◌∷◌, ◌++◌, length, map, take, nat_lt, Option, Some, None, refl, ap, ap₂, sym, ◌∙◌, arith}
use Rattle.std.proofs.lemmas.Bool.{ltb-false}
use Rattle.page_text.specs.FitTest.{fits}
use Rattle.page_text.specs.Page.{Page}
use Rattle.page_pool.specs.Cells.{cells_for}
use Rattle.page_pool.specs.Gains.{pages_to}
use Rattle.subscribers.specs.Directory.{Directory}
use Rattle.subscribers.specs.Parts.{Target}
use Rattle.snpp_entry.specs.declared.answers.SnppAnswer.{SnppAnswer}
use Rattle.snpp_entry.specs.declared.answers.SnppAnswer.TheVariants.{Ok, Bye, TooLong, Command, Twice, Missing, Pager, Text, Room}
use Rattle.snpp_entry.specs.declared.verbs.Verb.{Verb}
use Rattle.snpp_entry.specs.declared.verbs.Verb.TheVariants.{Page as PAGE, Mess as MESS, Rese as RESE, Send as SEND, Quit as QUIT, Other as OTHER}
use Rattle.snpp_entry.specs.Lines.{cut, verb, argument, without_cr}
use Rattle.snpp_entry.specs.Rows.{Pending, Outcome, nothing, without_page, with_id, page_row, mess_row, send_text, pending_text, sent_for, send_to, send_row, alone, by_verb, verb_of, outcome}
use Rattle.snpp_entry.specs.Sends.{ArePagesOfSends, is_taken_send, is_send, is_taken, QueuesAtSend, sends_taken, session_lines}
use Rattle.snpp_entry.specs.Session.{SnppCourse, course_after, is_bye, outcome_answers, outcome_of_piece, outcome_pages, session, snpp_is_too_long, snpp_start, snpp_tell, told_of}

-- What a verb queues: the same with the verb in place of the line.
record VerbQueues (directory : Directory) (spare : ℕ) (p : Pending) (v : Verb) (o : Outcome) : Type 0 where
  id : List ℕ
  target : Target
  text : List ℕ
  sent : (is_taken o.answer && is_send v) ≡ true
  id_is : p.id ≡ Some id
  known : directory id ≡ Some target
  text_is : pending_text target.function p.text ≡ Some text
  suits : fits target.function text ≡ true
  room : cells_for (length text) * length target.capcodes ≤ spare
  pages_are : o.pages ≡ pages_to target.capcodes target.function text

record VerbQueuesNone (v : Verb) (o : Outcome) : Type 0 where
  unsent : (is_taken o.answer && is_send v) ≡ false
  none : o.pages ≡ []

abbrev AtVerb : Directory → ℕ → Pending → Verb → Outcome → Type 0
AtVerb directory spare p v o = VerbQueues directory spare p v o ⊎ VerbQueuesNone v o

module _ (directory : Directory) (spare : ℕ) (p : Pending) where
  no_page : (v : Verb) (answer : SnppAnswer) (q : Pending) → (is_taken answer && is_send v) ≡ false → AtVerb directory spare p v (without_page answer q)
  no_page v answer q h = inr (record { unsent = h; none = refl })

  with_text : (id : List ℕ) (t : Target) (text : List ℕ) → p.id ≡ Some id → directory id ≡ Some t → pending_text t.function p.text ≡ Some text → AtVerb directory spare p SEND (send_text spare t text)
  with_text id t text e k pending = by_fit (fits t.function text) refl
    where
      by_room : (b : Bool) → nat_lt spare (cells_for (length text) * length t.capcodes) ≡ b → fits t.function text ≡ true
          → AtVerb directory spare p SEND (cond b (without_page Room nothing) (record { answer = Ok; pending = nothing; pages = pages_to t.capcodes t.function text }))
      by_room true r f = no_page SEND Room nothing refl
      by_room false r f = inl (record {
        id = id;
        target = t;
        text = text;
        sent = refl;
        id_is = e;
        known = k;
        text_is = pending;
        suits = f;
        room = ltb-false spare (cells_for (length text) * length t.capcodes) r;
        pages_are = refl;
      })

      by_fit : (b : Bool) → fits t.function text ≡ b
          → AtVerb directory spare p SEND (cond b (cond (nat_lt spare (cells_for (length text) * length t.capcodes)) (without_page Room nothing) (record { answer = Ok; pending = nothing; pages = pages_to t.capcodes t.function text })) (without_page Text nothing))
      by_fit true f = by_room (nat_lt spare (cells_for (length text) * length t.capcodes)) refl f
      by_fit false f = no_page SEND Text nothing refl

  with_target : (id : List ℕ) (t : Target) (text : Option (List ℕ)) → p.id ≡ Some id → directory id ≡ Some t → pending_text t.function p.text ≡ text → AtVerb directory spare p SEND (sent_for spare p t text)
  with_target id t None e k pending = no_page SEND Missing p refl
  with_target id t (Some text) e k pending = with_text id t text e k pending

  with_found : (id : List ℕ) (t : Option Target) → p.id ≡ Some id → directory id ≡ t → AtVerb directory spare p SEND (send_to spare p t)
  with_found id None e k = no_page SEND Missing p refl
  with_found id (Some t) e k = with_target id t (pending_text t.function p.text) e k refl

  with_pending : (id : Option (List ℕ)) → p.id ≡ id → AtVerb directory spare p SEND (send_row directory spare p id)
  with_pending None e = no_page SEND Missing p refl
  with_pending (Some id) e = with_found id (directory id) e refl

  at_id : (id : List ℕ) (s : Option Target) → AtVerb directory spare p PAGE (with_id p id s)
  at_id id None = no_page PAGE Pager p refl
  at_id id (Some s) = inr (record { unsent = refl; none = refl })

  at_page : (id : List ℕ) (o : Option (List ℕ)) → AtVerb directory spare p PAGE (page_row directory p id o)
  at_page id None = at_id id (directory id)
  at_page id (Some other) = no_page PAGE Twice p refl

  at_mess : (text : List ℕ) (o : Option (List ℕ)) → AtVerb directory spare p MESS (mess_row p text o)
  at_mess text None = inr (record { unsent = refl; none = refl })
  at_mess text (Some other) = no_page MESS Twice p refl

  at_alone : (v : Verb) (a : List ℕ) (o : Outcome) → AtVerb directory spare p v o → AtVerb directory spare p v (alone a p o)
  at_alone v [] o h = h
  at_alone v (c ∷ a) o h = no_page v Command p refl

  at_verb : (v : Verb) (a : List ℕ) → AtVerb directory spare p v (by_verb directory spare p v a)
  at_verb PAGE a = at_page a p.id
  at_verb MESS a = at_mess a p.text
  at_verb RESE a = at_alone RESE a (without_page Ok nothing) (no_page RESE Ok nothing refl)
  at_verb SEND a = at_alone SEND a (send_row directory spare p p.id) (with_pending p.id refl)
  at_verb QUIT a = at_alone QUIT a (without_page Bye p) (no_page QUIT Bye p refl)
  at_verb OTHER a = no_page OTHER Command p refl

  -- what a line queues
  pub at_line : (line : List ℕ) → QueuesAtSend directory spare p line (outcome directory spare p line)
  at_line line = by_length (nat_lt 1100 (length line))
    where
      by_length : (b : Bool) → QueuesAtSend directory spare p line (cond b (without_page Command p) (by_verb directory spare p (verb_of (verb line)) (argument line)))
      by_length true = inr (record { unsent = refl; none = refl })
      by_length false = elim (at_verb (verb_of (verb line)) (argument line)) [
        | inl h ↦ inl (record {
          id = h.id;
          target = h.target;
          text = h.text;
          sent = h.sent;
          id_is = h.id_is;
          known = h.known;
          text_is = h.text_is;
          suits = h.suits;
          room = h.room;
          pages_are = h.pages_are;
        })
        | inr h ↦ inr (record { unsent = h.unsent; none = h.none })
      ]

-- ---- whole sessions

none_taken : (lines : List (List ℕ)) → sends_taken lines [] ≡ 0
none_taken [] = refl
none_taken (line ∷ lines) = refl

-- a line before others
line_before : (directory : Directory) (spare : ℕ) (p : Pending) (line : List ℕ) (lines : List (List ℕ)) (answers : List SnppAnswer) (pages : List Page) → ArePagesOfSends directory lines answers pages
    → ArePagesOfSends directory (line ∷ lines) ((outcome directory spare p line).answer ∷ answers) ((outcome directory spare p line).pages ++ pages)
line_before directory spare p line lines answers pages others = elim (at_line directory spare p line) [
  | inl h ↦ record {
    sends = record { id = h.id; target = h.target; text = h.text } ∷ others.sends;
    as_many = (let one = ap {B = ℕ} (λ b. cond b 1 0) h.sent in let more = others.as_many in omega (arith, one, more));
    known = (h.known, others.known);
    pages_are = ap₂ (λ (x y : List Page). x ++ y) h.pages_are others.pages_are;
  }
  | inr h ↦ record {
    sends = others.sends;
    as_many = (let none = ap {B = ℕ} (λ b. cond b 1 0) h.unsent in let more = others.as_many in omega (arith, none, more));
    known = others.known;
    pages_are = ap₂ (λ (x y : List Page). x ++ y) h.none others.pages_are;
  }
]

sends_told : (directory : Directory) (s : SnppCourse) (ps : List (List ℕ)) → ArePagesOfSends directory (map without_cr ps) (outcome_answers (snpp_tell directory s ps)) (outcome_pages (snpp_tell directory s ps))
sends_told directory s [] = record { sends = []; as_many = refl; known = tt; pages_are = refl }
sends_told directory s (piece ∷ ps) =
    let o = outcome_of_piece directory s piece in
    line_before directory s.spare s.pending (without_cr piece) (map without_cr ps) _ _ (by_bye (is_bye o.answer) (sends_told directory (course_after s o) ps))
  where
    by_bye : (b : Bool)
        → ArePagesOfSends directory (map without_cr ps) (outcome_answers (snpp_tell directory (course_after s (outcome_of_piece directory s piece)) ps)) (outcome_pages (snpp_tell directory (course_after s (outcome_of_piece directory s piece)) ps))
        → ArePagesOfSends directory (map without_cr ps) (outcome_answers (cond b [] (snpp_tell directory (course_after s (outcome_of_piece directory s piece)) ps)))
        (outcome_pages (cond b [] (snpp_tell directory (course_after s (outcome_of_piece directory s piece)) ps)))
    by_bye true h = record { sends = []; as_many = sym (none_taken (map without_cr ps)); known = tt; pages_are = refl }
    by_bye false h = h

-- the answer to a session that is too long is to no SEND
closing_sends_none : (b : Bool) (lines : List (List ℕ)) (answers : List SnppAnswer) → sends_taken lines (answers ++ cond b (TooLong ∷ []) []) ≡ sends_taken lines answers
closing_sends_none b [] answers = refl
closing_sends_none true (line ∷ lines) [] = let h = none_taken lines in omega (arith, h)
closing_sends_none false (line ∷ lines) [] = refl
closing_sends_none b (line ∷ lines) (answer ∷ answers) = ap (λ (n : ℕ). cond (is_taken_send line answer) 1 0 + n) (closing_sends_none b lines answers)

-- the pages of a session are those of its SENDs that were answered 250 OK
pub pages_at_sends : (directory : Directory) (spare : ℕ) (x : List ℕ) → ArePagesOfSends directory (session_lines x) (session directory spare x).answers (session directory spare x).pages
pages_at_sends directory spare x =
    let told = told_of directory spare x in
    let h = sends_told directory (snpp_start spare) (cut (take 999999 x)).pieces in
    record {
      sends = h.sends;
      as_many = h.as_many ∙ sym (closing_sends_none (snpp_is_too_long told (length x)) (session_lines x) (outcome_answers told));
      known = h.known;
      pages_are = h.pages_are;
    }
