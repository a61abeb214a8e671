-- What holds of the sessions of each protocol.
use Rattle.std.proofs.Common.{◌≡◌, ◌≢◌, ℕ, ◌≤◌, Bool, true, false, ◌||◌, List, [], ◌∷◌, ◌++◌, append-nil, append_assoc, length, length-append, map, ◌+◌, Option, Some, None, refl, sym, ◌∙◌, ap, subst, arith}
use Rattle.std.proofs.lemmas.Grind.{flat_map-append}
use Rattle.std.proofs.lemmas.List.{map-append}
use Rattle.std.proofs.lemmas.List.Folds.{list_any-append}
use Rattle.std.specs.List.{list_any}
use Rattle.std.specs.Prelude.{flat_map, if◌then◌else◌}
use Rattle.entry_line.specs.Chars.{char_of}
use Rattle.page_pool.proofs.Lists.{in_use-append}
use Rattle.page_pool.specs.Cells.{cells_of}
use Rattle.page_pool.specs.Gains.{Gains}
use Rattle.page_pool.specs.Pool.{Live, Pool, cells, in_use, pages}
use Rattle.page_text.specs.Page.{Page}
use Rattle.subscribers.specs.Directory.{directory_of}
use Rattle.subscribers.specs.Parts.{Parts}
use Rattle.snpp_entry.proofs.Sessions.{fronts as snpp_fronts}
use Rattle.snpp_entry.specs.Replies.{snpp_replies, snpp_reply}
use Rattle.snpp_entry.specs.Session.{SnppSession, is_for_length, session as snpp_session}
use Rattle.tap_block.specs.Chars.{characters}
use Rattle.tap_terminal.proofs.Fronts.{fronts, session_exists}
use Rattle.tap_terminal.proofs.Verdicts.{gains_pages}
use Rattle.tap_terminal.specs.declared.answers.Answer.{Answer}
use Rattle.tap_terminal.specs.Session.{IsSession, Session, is_end}
use Rattle.tap_terminal.specs.State.{TerminalState}
use Rattle.tap_terminal.specs.Replies.{replies, reply_of}
use Rattle.wires.specs.Held.{Connection}
use Rattle.serving.proofs.Decisions.{TapFed, ended_stays, few_heard, has_end-said, session_stood, stands_on, tap_one, tap_reply-said, tap_silent}
use Rattle.serving.proofs.SnppSessions.{snpp_few, snpp_final-said, snpp_one, snpp_reply-said, snpp_silent, snpp_stays}
use Rattle.serving.specs.declared.session.SessionEnd.{SessionEnd}
use Rattle.serving.specs.declared.session.SessionEnd.TheVariants.{HungUp, LineLost}
use Rattle.serving.specs.Protocols.{AnswerIn, IsSessionIn, Protocol, SessionIn, StandsIn, StateIn, answers_in, end_in, greeting_in, has_last, is_last, queued_in, replies_in, reply_in, said_in, snpp, spoken, tap}
use Rattle.serving.specs.Sessions.{Fed, HasRoomForReplies}
use Rattle.serving.specs.SnppSessions.{snpp_session_for}
use Rattle.serving.specs.TapSessions.{end_decided}

-- ---- one answer

-- the reply to what is said
reply-said : (p : Protocol) (a : AnswerIn p) → flat_map (reply_in p) (said_in p a) ≡ reply_in p a
reply-said tap a = tap_reply-said a
reply-said snpp a = snpp_reply-said a

-- an answer with a reply is said
pub one_said : (p : Protocol) (a : AnswerIn p) → (reply_in p a ≡ [] → ⊥) → said_in p a ≡ a ∷ []
one_said tap a h = tap_one a h
one_said snpp a h = snpp_one a h

-- one without a reply doesn't end the session
pub silent_goes : (p : Protocol) (a : AnswerIn p) → reply_in p a ≡ [] → is_last p a ≡ false
silent_goes tap a h = tap_silent a h
silent_goes snpp a h = snpp_silent a h

-- what is said to one that doesn't end the session
last-said : (p : Protocol) (a : AnswerIn p) → is_last p a ≡ false → list_any (is_last p) (said_in p a) ≡ false
last-said tap a h = has_end-said a h
last-said snpp a h = snpp_final-said a h

-- ---- one answer more

-- all that is said
pub spoken_on : (p : Protocol) (s t : SessionIn p) (a : AnswerIn p) → answers_in p t ≡ answers_in p s ++ said_in p a → spoken p t ≡ spoken p s ++ reply_in p a
spoken_on p s t a e =
    ap (λ (z : List (AnswerIn p)). greeting_in p ++ flat_map (reply_in p) z) e
    ∙ (ap (λ (z : List ℕ). greeting_in p ++ z) (flat_map-append (reply_in p) (answers_in p s) (said_in p a) ∙ ap (λ (z : List ℕ). replies_in p s ++ z) (reply-said p a))
    ∙ sym (append_assoc (greeting_in p) (replies_in p s) (reply_in p a)))

-- it is still open
pub open_on : (p : Protocol) (s t : SessionIn p) (a : AnswerIn p) → answers_in p t ≡ answers_in p s ++ said_in p a → has_last p s ≡ false → is_last p a ≡ false → has_last p t ≡ false
open_on p s t a e h k =
    ap (λ (z : List (AnswerIn p)). list_any (is_last p) z) e
    ∙ (list_any-append (is_last p) (answers_in p s) (said_in p a) ∙ (ap (λ (b : Bool). b || list_any (is_last p) (said_in p a)) h ∙ last-said p a k))

-- ---- pages and cells

-- the pages since the beginning
pub pages_on : (p : Protocol) (settings : Parts) (spare : ℕ) (before pool pool2 : Pool) (state : StateIn p) (bytes : List ℕ) (byte : ℕ) (session : SessionIn p) (reply : List ℕ) (end : Option SessionEnd) → pages pool ≡ pages before ++ queued_in p session
    → (h : Fed p settings spare state bytes byte session reply end pool pool2) → pages pool2 ≡ pages before ++ queued_in p h.longer
pages_on p settings spare before pool pool2 state bytes byte session reply end e h =
    gains_pages pool pool2 h.gained h.pool
    ∙ (ap (λ (z : List Page). z ++ h.gained) e ∙ (append_assoc (pages before) (queued_in p session) h.gained ∙ ap (λ (z : List Page). pages before ++ z) (sym h.pages_are)))

-- the terminal was fed one byte more
pub tap_fed : (settings : Parts) (spare : ℕ) (state : TerminalState) (bytes : List ℕ) (byte : ℕ) (session : Session) (answer : Answer) (before after : Pool) (reply : List ℕ) (end : Option SessionEnd)
    → (h : TapFed settings spare state bytes byte session answer before after) → reply ≡ reply_of answer → end ≡ (if is_end answer then Some (end_decided h.longer.forced) else None) → Fed tap settings spare state bytes byte session reply end before after
tap_fed settings spare state bytes byte session answer before after reply end h said ends = record {
  longer = h.longer;
  gained = h.gained;
  answer = answer;
  stands = stands_on settings spare state bytes byte session answer before after h;
  answers_are = h.answers_are;
  pages_are = h.pages_are;
  pool = h.pool;
  reply_is = said;
  end_is = ends;
}

-- ---- whole sessions

-- the session that an entry line stands for
pub session_in : (p : Protocol) (settings : Parts) (spare : ℕ) (state : StateIn p) (bytes : List ℕ) (session : SessionIn p) (left : ℕ) → StandsIn p settings spare state bytes session left → IsSessionIn p settings spare bytes session
session_in tap settings spare state bytes session left h = session_stood settings spare state bytes session left h
session_in snpp settings spare state bytes session left h = h.session_is

-- an open session has at most 999,999 bytes
pub few_bytes : (p : Protocol) (settings : Parts) (spare : ℕ) (bytes : List ℕ) (session : SessionIn p) → IsSessionIn p settings spare bytes session → has_last p session ≡ false → length bytes ≤ 999999
few_bytes tap settings spare bytes session h none = few_heard settings spare bytes session h none
few_bytes snpp settings spare bytes session h none = snpp_few settings spare bytes (ap (λ (s : SnppSession). has_last snpp s) (sym h) ∙ none)

-- where an answer ended the session, nothing that follows changes it
pub stays_in : (p : Protocol) (settings : Parts) (spare left : ℕ) (state : StateIn p) (fed more : List ℕ) (session : SessionIn p) → StandsIn p settings spare state fed session left → has_last p session ≡ true
    → IsSessionIn p settings spare (fed ++ more) session
stays_in tap settings spare left state fed more session h e = ended_stays settings spare left state fed more session h e
stays_in snpp settings spare left state fed more session h e = snpp_stays settings spare left state fed more session h e

-- each list of bytes has a session
pub exists_in : (p : Protocol) (settings : Parts) (spare : ℕ) (bytes : List ℕ) → (session : SessionIn p) × IsSessionIn p settings spare bytes session
exists_in tap settings spare bytes = session_exists settings.password (directory_of settings) spare (characters bytes)
exists_in snpp settings spare bytes = (snpp_session_for settings spare bytes, refl)

-- what is said in a front is a front of what is said in all
spoken_front : (p : Protocol) (settings : Parts) (spare : ℕ) (x y : List ℕ) (front whole : SessionIn p) → IsSessionIn p settings spare x front → IsSessionIn p settings spare (x ++ y) whole
    → (rest : List ℕ) × (spoken p whole ≡ spoken p front ++ rest)
spoken_front tap settings spare x y front whole h k =
    let c = fronts settings.password (directory_of settings) spare (characters x) (characters y) front whole h (subst (λ (z : List ℕ). IsSession settings.password (directory_of settings) spare z whole) (map-append char_of x y) k) in
    (replies c.answers, ap replies c.answers_are ∙ flat_map-append reply_of front.answers c.answers)
spoken_front snpp settings spare x y front whole h k =
    let c = snpp_fronts (directory_of settings) spare (map char_of x) (map char_of y) in
    let all : whole.answers ≡ front.answers ++ c.answers =
    ap (λ (s : SnppSession). s.answers) k
    ∙ (ap (λ (z : List ℕ). (snpp_session (directory_of settings) spare z).answers) (map-append char_of x y)
    ∙ (c.answers_are ∙ ap (λ (s : SnppSession). s.answers ++ c.answers) (sym h))) in (
      snpp_replies c.answers,
      ap (λ (z : List _). greeting_in snpp ++ snpp_replies z) all
          ∙ (ap (λ (z : List ℕ). greeting_in snpp ++ z) (flat_map-append snpp_reply front.answers c.answers) ∙ sym (append_assoc (greeting_in snpp) (snpp_replies front.answers) (snpp_replies c.answers))),
    )

-- where all that is said fits, what is said to a front fits
pub fits_front : (p : Protocol) (settings : Parts) (spare : ℕ) (c : Connection) (x y : List ℕ) (session : SessionIn p) → HasRoomForReplies p settings spare c → c.rest ≡ x ++ y → IsSessionIn p settings spare x session
    → length (spoken p session) ≤ c.room
fits_front p settings spare c x y session f e h =
    let t = exists_in p settings spare c.rest in
    let k = spoken_front p settings spare x y session t.0 h (subst (λ (z : List ℕ). IsSessionIn p settings spare z t.0) e t.1) in
    let fit : length (spoken p t.0) ≤ c.room = f t.0 t.1 in
    let long : length (spoken p t.0) ≡ length (spoken p session) + length k.0 = ap length k.1 ∙ length-append (spoken p session) k.0 in
    omega (arith, fit, long)

-- ---- how sessions end

-- an end that an answer decided is no lost line
decided_not_lost : (b : Bool) → end_decided b ≢ LineLost
decided_not_lost true e = absurd cc
decided_not_lost false e = absurd cc

pub not_lost : (p : Protocol) (session : SessionIn p) → end_in p session ≢ LineLost
not_lost tap session e = decided_not_lost session.forced e
not_lost snpp session e = decided_not_lost (list_any is_for_length session.answers) e

-- and no hang-up
decided_not_hung_up : (b : Bool) → end_decided b ≢ HungUp
decided_not_hung_up true e = absurd cc
decided_not_hung_up false e = absurd cc

pub not_hung_up : (p : Protocol) (session : SessionIn p) → end_in p session ≢ HungUp
not_hung_up tap session e = decided_not_hung_up session.forced e
not_hung_up snpp session e = decided_not_hung_up (list_any is_for_length session.answers) e
