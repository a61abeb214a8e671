-- What the sessions of SNPP are for a connection.
use Rattle.std.proofs.Common.{◌≡◌, ℕ, ◌≤◌, ◌<◌, Bool, true, false, ◌||◌, cond, List, [], ◌∷◌, ◌++◌, append-nil, length, take, map, Option, Some, None, refl, sym, ◌∙◌, ap, subst, arith, ◌⊎◌, inl, inr}
use Rattle.std.proofs.lemmas.Bool.{cases_lt}
use Rattle.std.specs.Prelude.{flat_map}
use Rattle.std.proofs.lemmas.List.{length-map, map-append}
use Rattle.std.proofs.lemmas.List.Folds.{list_any-append}
use Rattle.std.specs.List.{list_any}
use Rattle.entry_line.specs.Chars.{char_of}
use Rattle.subscribers.specs.Directory.{Directory, directory_of}
use Rattle.subscribers.specs.Parts.{Parts}
use Rattle.snpp_entry.proofs.Outcomes.{usual}
use Rattle.snpp_entry.proofs.Sessions.{short_session, too_long}
use Rattle.snpp_entry.specs.declared.answers.SnppAnswer.{SnppAnswer}
use Rattle.snpp_entry.specs.declared.answers.SnppAnswer.TheVariants.{Nothing, Ok, Bye, TooLong, Command, Twice, Missing, Pager, Text, Room}
use Rattle.snpp_entry.specs.Lines.{cut, without_cr}
use Rattle.snpp_entry.specs.Replies.{snpp_reply}
use Rattle.snpp_entry.specs.Rows.{Outcome}
use Rattle.snpp_entry.specs.Session.{SnppCourse, SnppSession, course_after, has_bye, is_bye, is_final, is_for_length, outcome_answers, outcome_of_piece, session, snpp_is_too_long, snpp_start, snpp_tell, told_of}
use Rattle.snpp_entry.specs.State.{SnppIsOver, SnppHearsOn, SnppStands, SnppStandsAt, SnppState, snpp_said}
use Rattle.page_pool.specs.Pool.{Pool}
use Rattle.serving.specs.declared.session.SessionEnd.{SessionEnd}
use Rattle.serving.specs.declared.session.SessionEnd.TheVariants.{Ended, Forced}
use Rattle.serving.specs.Protocols.{snpp}
use Rattle.serving.specs.Sessions.{Fed}
use Rattle.serving.specs.SnppSessions.{SnppStandsFor, snpp_session_for}

-- the answer to a line that ends the session is Bye
final_is_bye : (a : SnppAnswer) → is_for_length a ≡ false → is_final a ≡ is_bye a
final_is_bye TooLong h = absurd cc
final_is_bye Nothing h = refl
final_is_bye Ok h = refl
final_is_bye Bye h = refl
final_is_bye Command h = refl
final_is_bye Twice h = refl
final_is_bye Missing h = refl
final_is_bye Pager h = refl
final_is_bye Text h = refl
final_is_bye Room h = refl

final_then : (b : Bool) (told : List Outcome) → list_any is_final (outcome_answers told) ≡ has_bye told → list_any is_final (outcome_answers (cond b [] told)) ≡ has_bye (cond b [] told)
final_then true told h = refl
final_then false told h = h

-- a final answer among those to lines is a Bye
final_told : (directory : Directory) (s : SnppCourse) (ps : List (List ℕ)) → list_any is_final (outcome_answers (snpp_tell directory s ps)) ≡ has_bye (snpp_tell directory s ps)
final_told directory s [] = refl
final_told directory s (piece ∷ ps) =
    let o = outcome_of_piece directory s piece in
    let rest = cond (is_bye o.answer) [] (snpp_tell directory (course_after s o) ps) in
    ap (λ (b : Bool). b || list_any is_final (outcome_answers rest)) (final_is_bye o.answer (usual directory s.spare s.pending (without_cr piece)).in_time)
    ∙ ap (λ (b : Bool). is_bye o.answer || b) (final_then (is_bye o.answer) (snpp_tell directory (course_after s o) ps) (final_told directory (course_after s o) ps))

-- two tests of which none holds
neither : (a b : Bool) → (a || b) ≡ false → (a ≡ false) × (b ≡ false)
neither true b h = absurd cc
neither false b h = (refl, h)

-- a session without a final answer has at most 999,999 characters
pub snpp_few : (settings : Parts) (spare : ℕ) (bytes : List ℕ) → list_any is_final (snpp_session_for settings spare bytes).answers ≡ false → length bytes ≤ 999999
snpp_few settings spare bytes none = by_size (cases_lt (length bytes) 1000000)
  where
    told : List Outcome
    told = told_of (directory_of settings) spare (map char_of bytes)

    by_size : (length bytes < 1000000) ⊎ (1000000 ≤ length bytes) → length bytes ≤ 999999
    by_size (inl few) = omega (arith, few)
    by_size (inr many) =
        let count = length (map char_of bytes) in
        let closing = cond (snpp_is_too_long told count) (TooLong ∷ []) [] in
        let two = neither (list_any is_final (outcome_answers told)) (list_any is_final closing) (sym (list_any-append is_final (outcome_answers told) closing) ∙ none) in
        let long : snpp_is_too_long told count ≡ true = too_long told count (sym (final_told (directory_of settings) (snpp_start spare) (cut (take 999999 (map char_of bytes))).pieces) ∙ two.0) (subst (λ (n : ℕ). 1000000 ≤ n) (sym (length-map bytes char_of)) many) in
        let bad : true ≡ false = ap (λ (b : Bool). list_any is_final (cond b (TooLong ∷ []) [])) (sym long) ∙ two.1 in
        absurd cc

-- where an answer ended the session, nothing that follows changes it
snpp_over_at : (over : Bool) (settings : Parts) (spare left : ℕ) (state : SnppState) (bytes : List ℕ) → list_any is_final (snpp_session_for settings spare bytes).answers ≡ true
    → SnppStandsAt over (directory_of settings) spare state (map char_of bytes) left → SnppIsOver (directory_of settings) spare (map char_of bytes)
snpp_over_at true settings spare left state bytes e h = h
snpp_over_at false settings spare left state bytes e h =
    let x = map char_of bytes in
    let none : list_any is_final (session (directory_of settings) spare x).answers ≡ false =
    ap (λ (s : SnppSession). list_any is_final s.answers) (short_session (directory_of settings) spare x h.few) ∙ (final_told (directory_of settings) (snpp_start spare) (cut x).pieces ∙ h.no_bye) in
    let bad : true ≡ false = sym e ∙ none in
    absurd cc

pub snpp_stays : (settings : Parts) (spare left : ℕ) (state : SnppState) (fed more : List ℕ) (s : SnppSession) → SnppStandsFor settings spare state fed s left → list_any is_final s.answers ≡ true
    → s ≡ snpp_session_for settings spare (fed ++ more)
snpp_stays settings spare left state fed more s h e =
    let over = snpp_over_at state.over settings spare left state fed (ap (λ (z : SnppSession). list_any is_final z.answers) (sym h.session_is) ∙ e) h.stands.at_end in
    h.session_is ∙ (sym (over (map char_of more)) ∙ ap (λ (x : List ℕ). session (directory_of settings) spare x) (sym (map-append char_of fed more)))

-- no answer for the length where none is final
no_length : (answers : List SnppAnswer) → list_any is_final answers ≡ false → list_any is_for_length answers ≡ false
no_length [] h = refl
no_length (a ∷ answers) h = let two = neither (is_final a) (list_any is_final answers) h in ap (λ (b : Bool). b || list_any is_for_length answers) (one a two.0) ∙ no_length answers two.1
  where
    one : (a : SnppAnswer) → is_final a ≡ false → is_for_length a ≡ false
    one TooLong h = absurd cc
    one other h = refl

-- the end by the last answer
pub length_last : (answers : List SnppAnswer) (a : SnppAnswer) → list_any is_final answers ≡ false → list_any is_for_length (answers ++ a ∷ []) ≡ is_for_length a
length_last answers a h = list_any-append is_for_length answers (a ∷ []) ∙ (ap (λ (b : Bool). b || (is_for_length a || false)) (no_length answers h) ∙ or_none (is_for_length a))
  where
    or_none : (b : Bool) → (b || false) ≡ b
    or_none true = refl
    or_none false = refl

-- ---- one answer

-- the reply to what is said
pub snpp_reply-said : (a : SnppAnswer) → flat_map snpp_reply (snpp_said a) ≡ snpp_reply a
snpp_reply-said Nothing = refl
snpp_reply-said Ok = append-nil _
snpp_reply-said Bye = append-nil _
snpp_reply-said TooLong = append-nil _
snpp_reply-said Command = append-nil _
snpp_reply-said Twice = append-nil _
snpp_reply-said Missing = append-nil _
snpp_reply-said Pager = append-nil _
snpp_reply-said Text = append-nil _
snpp_reply-said Room = append-nil _

-- an answer with a reply is said
pub snpp_one : (a : SnppAnswer) → (snpp_reply a ≡ [] → ⊥) → snpp_said a ≡ a ∷ []
snpp_one Nothing h = absurd (h refl)
snpp_one Ok h = refl
snpp_one Bye h = refl
snpp_one TooLong h = refl
snpp_one Command h = refl
snpp_one Twice h = refl
snpp_one Missing h = refl
snpp_one Pager h = refl
snpp_one Text h = refl
snpp_one Room h = refl

-- one without a reply ends no session
pub snpp_silent : (a : SnppAnswer) → snpp_reply a ≡ [] → is_final a ≡ false
snpp_silent Bye h = absurd cc
snpp_silent TooLong h = absurd cc
snpp_silent other h = refl

-- what is said to an answer that ends no session
pub snpp_final-said : (a : SnppAnswer) → is_final a ≡ false → list_any is_final (snpp_said a) ≡ false
snpp_final-said Nothing h = refl
snpp_final-said Ok h = refl
snpp_final-said Bye h = absurd cc
snpp_final-said TooLong h = absurd cc
snpp_final-said Command h = refl
snpp_final-said Twice h = refl
snpp_final-said Missing h = refl
snpp_final-said Pager h = refl
snpp_final-said Text h = refl
snpp_final-said Room h = refl

-- ---- one byte more

-- the end by this answer is the end of the longer session
snpp_ends : (a : SnppAnswer) (answers : List SnppAnswer) → list_any is_final answers ≡ false
    → cond (is_final a) (Some (cond (is_for_length a) Forced Ended)) None ≡ cond (is_final a) (Some (cond (list_any is_for_length (answers ++ snpp_said a)) Forced Ended)) None
snpp_ends Bye answers h = ap (λ (b : Bool). Some (cond b Forced Ended)) (sym (length_last answers Bye h))
snpp_ends TooLong answers h = ap (λ (b : Bool). Some (cond b Forced Ended)) (sym (length_last answers TooLong h))
snpp_ends other answers h = refl

pub snpp_fed : (settings : Parts) (spare : ℕ) (old state : SnppState) (bytes : List ℕ) (byte : ℕ) (s : SnppSession) (a : SnppAnswer) (before after : Pool) (reply : List ℕ) (end : Option SessionEnd)
    → SnppStandsFor settings spare old bytes s before.spare → list_any is_final s.answers ≡ false → SnppHearsOn (directory_of settings) spare state (map char_of bytes) (char_of byte) a before after
    → reply ≡ snpp_reply a → end ≡ cond (is_final a) (Some (cond (is_for_length a) Forced Ended)) None → Fed snpp settings spare state bytes byte s reply end before after
snpp_fed settings spare old state bytes byte s a before after reply end stood none h said ends =
    let longer = snpp_session_for settings spare (bytes ++ byte ∷ []) in
    let x : map char_of (bytes ++ byte ∷ []) ≡ map char_of bytes ++ char_of byte ∷ [] = map-append char_of bytes (byte ∷ []) in
    let answers : longer.answers ≡ s.answers ++ snpp_said a =
    ap (λ (z : List ℕ). (session (directory_of settings) spare z).answers) x ∙ (h.answers_are ∙ ap (λ (t : SnppSession). t.answers ++ snpp_said a) (sym stood.session_is)) in
    record {
      longer = longer;
      gained = h.gained;
      answer = a;
      stands = record { stands = subst (λ (z : List ℕ). SnppStands (directory_of settings) spare state z after.spare) (sym x) h.stands; session_is = refl };
      answers_are = answers;
      pages_are = ap (λ (z : List ℕ). (session (directory_of settings) spare z).pages) x ∙ (h.pages_are ∙ ap (λ (t : SnppSession). t.pages ++ h.gained) (sym stood.session_is));
      pool = h.pool;
      reply_is = said;
      end_is = ends ∙ (snpp_ends a s.answers none ∙ ap (λ (z : List SnppAnswer). cond (is_final a) (Some (cond (list_any is_for_length z) Forced Ended)) None) (sym answers));
    }
