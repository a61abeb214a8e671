-- Outcomes, verb by verb.
use Rattle.std.proofs.Common.{◌≡◌, ℕ, ◌*◌, ◌<◌, ◌≤◌, cond, Bool, true, false, List, [], ◌∷◌, length, refl, ap, sym, subst, ◌∙◌, arith, Option, Some, None, nat_lt}
use Rattle.std.proofs.lemmas.Bool.Decides.{nat_tests}
use Rattle.page_text.specs.Fits.{Fits}
use Rattle.page_pool.specs.Cells.{cells_for}
use Rattle.page_pool.specs.Gains.{Gains, pages_to}
use Rattle.page_pool.specs.Pool.{Pool, page}
use Rattle.subscribers.specs.Parts.{Target}
use Rattle.std.proofs.lemmas.List.{length-map}
use Rattle.snpp_entry.specs.declared.answers.SnppAnswer.TheVariants.{Ok, Command, Text, Room}
use Rattle.snpp_entry.specs.declared.verbs.Verb.{Verb}
use Rattle.snpp_entry.specs.declared.verbs.Verb.TheVariants.{Page as PAGE, Mess as MESS, Rese as RESE, Send as SEND, Quit as QUIT, Other as OTHER}
use Rattle.page_text.specs.FitTest.{fits}
use Rattle.snpp_entry.specs.Lines.{verb, argument}
use Rattle.subscribers.specs.Directory.{Directory}
use Rattle.snpp_entry.specs.Rows.{Pending, Outcome, nothing, without_page, with_id, page_row, mess_row, send_text, pending_text, sent_for, send_to, send_row, alone, by_verb, verb_of, outcome}
use Rattle.snpp_entry.specs.Session.{is_for_length}
use Rattle.snpp_entry.specs.State.{IsOutcomeDone, snpp_said}
use Rattle.page_text.proofs.FitTest.{fits_from_test, test_from_fits}

-- a text that doesn't fit
pub misfit_done : (t : Target) (text : List ℕ) (pool : Pool) → ¬ Fits t.function text → IsOutcomeDone (send_text pool.spare t text) Text 0 nothing pool pool
misfit_done t text pool h = by_test (fits t.function text) refl
  where
    by_test : (b : Bool) → fits t.function text ≡ b
        → IsOutcomeDone (cond b (cond (nat_lt pool.spare (cells_for (length text) * length t.capcodes)) (without_page Room nothing) (record { answer = Ok; pending = nothing; pages = pages_to t.capcodes t.function text })) (without_page Text nothing)) Text 0 nothing pool pool
    by_test true k = absurd (h (fits_from_test t.function text k))
    by_test false k = record { answer_is = refl; count_is = refl; pending_is = refl; pool = refl }

-- a text that fits, by the room
fitting : (t : Target) (text : List ℕ) (spare : ℕ) (b : Bool) → Fits t.function text → nat_lt spare (cells_for (length text) * length t.capcodes) ≡ b
    → send_text spare t text ≡ cond b (without_page Room nothing) (record { answer = Ok; pending = nothing; pages = pages_to t.capcodes t.function text })
fitting t text spare b h k = rw (test_from_fits t.function text h, k) refl

-- a text without room
pub full_done : (t : Target) (text : List ℕ) (before after : Pool) → Fits t.function text → before.spare < cells_for (length text) * length t.capcodes → after ≡ before
    → IsOutcomeDone (send_text before.spare t text) Room 0 nothing before after
full_done t text before after h full same =
    let b : nat_lt before.spare (cells_for (length text) * length t.capcodes) ≡ true = grind (arith, nat_tests) in
    subst (λ o. IsOutcomeDone o Room 0 nothing before after) (sym (fitting t text before.spare true h b)) (record { answer_is = refl; count_is = refl; pending_is = refl; pool = same })

-- a text with room
pub put_done : (t : Target) (text : List ℕ) (count : ℕ) (before after : Pool) → Fits t.function text → count ≡ length t.capcodes → cells_for (length text) * length t.capcodes ≤ before.spare
    → Gains before after (pages_to t.capcodes t.function text) → IsOutcomeDone (send_text before.spare t text) Ok count nothing before after
put_done t text count before after h counted room gains =
    let b : nat_lt before.spare (cells_for (length text) * length t.capcodes) ≡ false = grind (arith, nat_tests) in
    subst (λ o. IsOutcomeDone o Ok count nothing before after) (sym (fitting t text before.spare false h b))
    (record { answer_is = refl; count_is = counted ∙ sym (length-map t.capcodes (λ c. page c t.function text)); pending_is = refl; pool = gains })

-- a line that is too long
pub long_outcome : (directory : Directory) (spare : ℕ) (p : Pending) (line : List ℕ) → 1100 < length line → outcome directory spare p line ≡ without_page Command p
long_outcome directory spare p line h =
    let t : nat_lt 1100 (length line) ≡ true = grind (arith, nat_tests) in
    ap (λ b. cond b (without_page Command p) (by_verb directory spare p (verb_of (verb line)) (argument line))) t

-- it is said, and isn't for the length
pub record IsUsual (o : Outcome) : Type 0 where
  pub is_said : snpp_said o.answer ≡ o.answer ∷ []
  pub in_time : is_for_length o.answer ≡ false

-- two outcomes
by_test : (b : Bool) (o q : Outcome) → IsUsual o → IsUsual q → IsUsual (cond b o q)
by_test true o q h k = h
by_test false o q h k = k

-- a page with a text
text_usual : (spare : ℕ) (s : Target) (text : List ℕ) → IsUsual (send_text spare s text)
text_usual spare s text = by_test (fits s.function text) _ _
    (by_test (nat_lt spare (cells_for (length text) * length s.capcodes)) _ _ (record { is_said = refl; in_time = refl }) (record { is_said = refl; in_time = refl }))
    (record { is_said = refl; in_time = refl })

-- with a text or none
by_usual : (spare : ℕ) (p : Pending) (s : Target) (text : Option (List ℕ)) → IsUsual (sent_for spare p s text)
by_usual spare p s None = record { is_said = refl; in_time = refl }
by_usual spare p s (Some text) = text_usual spare s text

-- with a subscriber or none
to_usual : (spare : ℕ) (p : Pending) (s : Option Target) → IsUsual (send_to spare p s)
to_usual spare p None = record { is_said = refl; in_time = refl }
to_usual spare p (Some s) = by_usual spare p s (pending_text s.function p.text)

-- with an id or none
send_usual : (directory : Directory) (spare : ℕ) (p : Pending) (id : Option (List ℕ)) → IsUsual (send_row directory spare p id)
send_usual directory spare p None = record { is_said = refl; in_time = refl }
send_usual directory spare p (Some id) = to_usual spare p (directory id)

-- an id where none is pending
id_usual : (p : Pending) (id : List ℕ) (s : Option Target) → IsUsual (with_id p id s)
id_usual p id None = record { is_said = refl; in_time = refl }
id_usual p id (Some s) = record { is_said = refl; in_time = refl }

-- an id
page_usual : (directory : Directory) (p : Pending) (id : List ℕ) (o : Option (List ℕ)) → IsUsual (page_row directory p id o)
page_usual directory p id None = id_usual p id (directory id)
page_usual directory p id (Some other) = record { is_said = refl; in_time = refl }

-- a text
mess_usual : (p : Pending) (text : List ℕ) (o : Option (List ℕ)) → IsUsual (mess_row p text o)
mess_usual p text None = record { is_said = refl; in_time = refl }
mess_usual p text (Some other) = record { is_said = refl; in_time = refl }

-- with an argument or none
alone_usual : (a : List ℕ) (p : Pending) (o : Outcome) → IsUsual o → IsUsual (alone a p o)
alone_usual [] p o h = h
alone_usual (c ∷ a) p o h = record { is_said = refl; in_time = refl }

-- all verbs
verb_usual : (directory : Directory) (spare : ℕ) (p : Pending) (v : Verb) (a : List ℕ) → IsUsual (by_verb directory spare p v a)
verb_usual directory spare p PAGE a = page_usual directory p a p.id
verb_usual directory spare p MESS a = mess_usual p a p.text
verb_usual directory spare p RESE a = alone_usual a p _ (record { is_said = refl; in_time = refl })
verb_usual directory spare p SEND a = alone_usual a p _ (send_usual directory spare p p.id)
verb_usual directory spare p QUIT a = alone_usual a p _ (record { is_said = refl; in_time = refl })
verb_usual directory spare p OTHER a = record { is_said = refl; in_time = refl }

-- all lines
pub usual : (directory : Directory) (spare : ℕ) (p : Pending) (line : List ℕ) → IsUsual (outcome directory spare p line)
usual directory spare p line = by_test (nat_lt 1100 (length line)) _ _ (record { is_said = refl; in_time = refl }) (verb_usual directory spare p (verb_of (verb line)) (argument line))
