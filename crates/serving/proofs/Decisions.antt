-- What a byte that is fed does to the answers and the replies of TAP, and to the pool.
use Rattle.std.proofs.Common.{◌≡◌, ℕ, ◌≤◌, Bool, true, false, ◌||◌, cond, List, [], ◌∷◌, ◌++◌, append-nil, append_assoc, length, map, ◌<◌, Option, Some, None, refl, sym, ◌∙◌, ap, subst, arith, ◌⊎◌, inl, inr}
use Rattle.std.proofs.lemmas.Bool.{cases_lt}
use Rattle.std.proofs.lemmas.List.{length-map, map-append}
use Rattle.std.proofs.lemmas.List.Folds.{list_any-append}
use Rattle.page_pool.specs.Pool.{Pool, pages}
use Rattle.page_text.specs.Page.{Page}
use Rattle.subscribers.specs.Parts.{Parts}
use Rattle.entry_line.specs.Chars.{char_of}
use Rattle.tap_block.specs.Chars.{characters}
use Rattle.tap_block.specs.Reading.{items_of}
use Rattle.tap_block.proofs.Characters.{characters_on}
use Rattle.tap_terminal.proofs.Feeds.{stands_session}
use Rattle.tap_terminal.proofs.Sessions.{too_long}
use Rattle.tap_terminal.proofs.Verdicts.{gains_pages}
use Rattle.tap_terminal.specs.declared.answers.Answer.{Answer}
use Rattle.tap_terminal.specs.declared.answers.Answer.TheVariants.{Ack, End, Go, Id, Nak, Nothing, Rs}
use Rattle.subscribers.specs.Directory.{directory_of}
use Rattle.tap_terminal.specs.declared.terminal.Stage.{Stage}
use Rattle.tap_terminal.specs.declared.terminal.Stage.TheVariants.{Open, Ended, Forced}
use Rattle.tap_terminal.specs.State.{TerminalState, HearsOn, Stands, StandsAt, said}
use Rattle.tap_terminal.specs.Replies.{reply_of}
use Rattle.std.specs.Prelude.{flat_map}
use Rattle.tap_terminal.specs.Session.{IsSession, Session, ItemDecided, answers_of, closing, has_end as told_end, is_end, is_too_long, start, tell}
use Rattle.serving.specs.TapSessions.{SessionOf, TerminalStandsFor, has_end_answer}

-- one byte more was fed
abbrev pub TapFed : Parts → ℕ → TerminalState → List ℕ → ℕ → Session → Answer → Pool → Pool → Type 0
TapFed settings spare desk bytes byte session answer before after =
    HearsOn settings.password (directory_of settings) spare desk (characters bytes) (char_of byte) session answer before after

-- the reply to what is said
pub tap_reply-said : (a : Answer) → flat_map reply_of (said a) ≡ reply_of a
tap_reply-said Nothing = refl
tap_reply-said Id = append-nil _
tap_reply-said Go = append-nil _
tap_reply-said Ack = append-nil _
tap_reply-said Nak = append-nil _
tap_reply-said (Rs reason) = append-nil _
tap_reply-said End = append-nil _

-- an answer with a reply is said
pub tap_one : (a : Answer) → (reply_of a ≡ [] → ⊥) → said a ≡ a ∷ []
tap_one Nothing h = absurd (h refl)
tap_one Id h = refl
tap_one Go h = refl
tap_one Ack h = refl
tap_one Nak h = refl
tap_one (Rs reason) h = refl
tap_one End h = refl

-- one without a reply isn't the End
pub tap_silent : (a : Answer) → reply_of a ≡ [] → is_end a ≡ false
tap_silent End h = absurd cc
tap_silent other h = refl

-- an answer that isn't the End
pub not_end : (a : Answer) → (a ≡ End → ⊥) → is_end a ≡ false
not_end End h = absurd (h refl)
not_end Nothing h = refl
not_end Id h = refl
not_end Go h = refl
not_end Ack h = refl
not_end Nak h = refl
not_end (Rs reason) h = refl

-- what is said to an answer that isn't the End has no End
pub has_end-said : (a : Answer) → is_end a ≡ false → has_end_answer (said a) ≡ false
has_end-said End h = absurd cc
has_end-said Nothing h = refl
has_end-said Id h = refl
has_end-said Go h = refl
has_end-said Ack h = refl
has_end-said Nak h = refl
has_end-said (Rs reason) h = refl

-- no End where none was and none came
pub no_end_on : (s t : Session) (a : Answer) → t.answers ≡ s.answers ++ said a → has_end_answer s.answers ≡ false → is_end a ≡ false → has_end_answer t.answers ≡ false
no_end_on s t a e h k = ap has_end_answer e ∙ (list_any-append is_end s.answers (said a) ∙ (ap (λ (b : Bool). b || has_end_answer (said a)) h ∙ has_end-said a k))

-- the pages since the beginning
pub pages_on : (settings : Parts) (spare : ℕ) (before pool pool2 : Pool) (desk : TerminalState) (bytes : List ℕ) (byte : ℕ) (session : Session) (a : Answer) → pages pool ≡ pages before ++ session.pages
    → (h : TapFed settings spare desk bytes byte session a pool pool2) → pages pool2 ≡ pages before ++ h.longer.pages
pages_on settings spare before pool pool2 desk bytes byte session a e h =
    gains_pages pool pool2 h.gained h.pool
    ∙ (ap (λ (z : List Page). z ++ h.gained) e ∙ (append_assoc (pages before) session.pages h.gained ∙ ap (λ (z : List Page). pages before ++ z) (sym h.pages_are)))

-- two tests of which none holds
neither : (a b : Bool) → (a || b) ≡ false → (a ≡ false) × (b ≡ false)
neither true b h = absurd cc
neither false b h = (refl, h)

-- an End among the answers
pub answers_end : (told : List ItemDecided) → has_end_answer (answers_of told) ≡ told_end told
answers_end [] = refl
answers_end (t ∷ told) = ap (λ (b : Bool). is_end t.answer || b) (answers_end told)

-- a session that is too long has an End
too_long_end : (told : List ItemDecided) (count : ℕ) {B : Type 0} → has_end_answer (answers_of told ++ closing told count) ≡ false → 1000000 ≤ count → B
too_long_end told count h many =
    let two = neither (has_end_answer (answers_of told)) (has_end_answer (closing told count)) (sym (list_any-append is_end (answers_of told) (closing told count)) ∙ h) in
    let long : is_too_long told count ≡ true = too_long told count (sym (answers_end told) ∙ two.0) many in
    let bad : true ≡ false = ap (λ (b : Bool). has_end_answer (cond b (End ∷ []) [])) (sym long) ∙ two.1 in
    absurd cc

-- a session without an End has at most 999,999 characters
pub few_heard : (settings : Parts) (spare : ℕ) (bytes : List ℕ) (session : Session) → SessionOf settings spare bytes session → has_end_answer session.answers ≡ false → length bytes ≤ 999999
few_heard settings spare bytes session h none = by_size (cases_lt (length bytes) 1000000)
  where
    told : List ItemDecided
    told = tell (directory_of settings) (start spare) (items_of settings.password h.pieces)

    by_size : (length bytes < 1000000) ⊎ (1000000 ≤ length bytes) → length bytes ≤ 999999
    by_size (inl few) = omega (arith, few)
    by_size (inr many) =
        too_long_end told (length (characters bytes)) (ap (λ (s : Session). has_end_answer s.answers) (sym h.session_is) ∙ none) (subst (λ (n : ℕ). 1000000 ≤ n) (sym (length-map bytes char_of)) many)

-- the session that a terminal stands for
pub session_stood : (settings : Parts) (spare : ℕ) (desk : TerminalState) (bytes : List ℕ) (session : Session) (left : ℕ) → TerminalStandsFor settings spare desk bytes session left → SessionOf settings spare bytes session
session_stood settings spare desk bytes session left h = stands_session settings.password (directory_of settings) spare desk (characters bytes) session left h

-- the terminal stands for one byte more
pub stands_on : (settings : Parts) (spare : ℕ) (desk : TerminalState) (bytes : List ℕ) (byte : ℕ) (session : Session) (a : Answer) (pool pool2 : Pool) (h : TapFed settings spare desk bytes byte session a pool pool2)
    → TerminalStandsFor settings spare desk (bytes ++ byte ∷ []) h.longer pool2.spare
stands_on settings spare desk bytes byte session a pool pool2 h =
    subst (λ (x : List ℕ). Stands settings.password (directory_of settings) spare desk x h.longer pool2.spare) (sym (characters_on bytes byte)) h.stands

true_false : {B : Type 0} (b : Bool) → b ≡ true → b ≡ false → B
true_false b h k = cc

-- where an End came, nothing that follows changes the session
ended_at : (settings : Parts) (spare left : ℕ) (desk : TerminalState) (fed more : List ℕ) (session : Session) (stage : Stage) → StandsAt stage settings.password (directory_of settings) spare desk (characters fed) session left
    → has_end_answer session.answers ≡ true → SessionOf settings spare (fed ++ more) session
ended_at settings spare left desk fed more session Open h e =
    true_false (has_end_answer session.answers) e (ap (λ (s : Session). has_end_answer s.answers) h.session_is ∙ (answers_end (tell (directory_of settings) (start spare) h.items) ∙ h.no_end))
ended_at settings spare left desk fed more session Ended h e = subst (λ (x : List ℕ). IsSession settings.password (directory_of settings) spare x session) (sym (map-append char_of fed more)) (h (characters more))
ended_at settings spare left desk fed more session Forced h e = subst (λ (x : List ℕ). IsSession settings.password (directory_of settings) spare x session) (sym (map-append char_of fed more)) (h (characters more))

pub ended_stays : (settings : Parts) (spare left : ℕ) (desk : TerminalState) (fed more : List ℕ) (session : Session) → TerminalStandsFor settings spare desk fed session left
    → has_end_answer session.answers ≡ true → SessionOf settings spare (fed ++ more) session
ended_stays settings spare left desk fed more session h e = ended_at settings spare left desk fed more session desk.stage h.at_stage e
