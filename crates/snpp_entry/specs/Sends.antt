-- The lines that queue pages: each SEND that is answered 250 OK, and no other.
use Rattle.std.specs.Prelude.{◌≡◌, ◌⊎◌, ℕ, ◌+◌, ◌*◌, ◌≤◌, Bool, true, false, ◌&&◌, if◌then◌else◌, List, [], ◌∷◌, length, map, flat_map, take, Some}
use Rattle.std.specs.List.{AllByRecursion}
use Rattle.page_text.specs.FitTest.{fits}
use Rattle.page_text.specs.Page.{Page}
use Rattle.page_pool.specs.Cells.{cells_for}
use Rattle.page_pool.specs.Gains.{pages_to}
use Rattle.subscribers.specs.Directory.{Directory}
use Rattle.subscribers.specs.Parts.{Target}
use Rattle.snpp_entry.specs.declared.answers.SnppAnswer.{SnppAnswer}
use Rattle.snpp_entry.specs.declared.answers.SnppAnswer.TheVariants.{Ok}
use Rattle.snpp_entry.specs.declared.verbs.Verb.{Verb}
use Rattle.snpp_entry.specs.declared.verbs.Verb.TheVariants.{Page as PAGE, Mess as MESS, Rese as RESE, Send as SEND, Quit as QUIT, Other as OTHER}
use Rattle.snpp_entry.specs.Lines.{cut, verb, without_cr}
use Rattle.snpp_entry.specs.Rows.{Outcome, Pending, pending_text, verb_of}

-- the answer is 250 OK
abbrev pub is_taken : SnppAnswer → Bool
is_taken Ok = true
is_taken other = false

-- the verb is SEND
abbrev pub is_send : Verb → Bool
is_send SEND = true
is_send PAGE = false
is_send MESS = false
is_send RESE = false
is_send QUIT = false
is_send OTHER = false

-- the line is a SEND, and this answer to it is 250 OK
abbrev pub is_taken_send : List ℕ → SnppAnswer → Bool
is_taken_send line answer = is_taken answer && is_send (verb_of (verb line))

-- The line is a SEND that is answered 250 OK. It queues one page for each capcode of the pending id, with the pending text, which fits and
-- has room.
pub record QueuesPages (directory : Directory) (spare : ℕ) (p : Pending) (line : List ℕ) (o : Outcome) : Type 0 where
  pub id : List ℕ
  pub target : Target
  pub text : List ℕ
  pub sent : is_taken_send line o.answer ≡ true
  pub id_is : p.id ≡ Some id
  pub known : directory id ≡ Some target
  pub text_is : pending_text target.function p.text ≡ Some text
  pub suits : fits target.function text ≡ true
  pub room : cells_for (length text) * length target.capcodes ≤ spare
  pub pages_are : o.pages ≡ pages_to target.capcodes target.function text

-- The line is no such SEND, and queues no page.
pub record QueuesNone (line : List ℕ) (o : Outcome) : Type 0 where
  pub unsent : is_taken_send line o.answer ≡ false
  pub none : o.pages ≡ []

-- what a line queues
abbrev pub QueuesAtSend : Directory → ℕ → Pending → List ℕ → Outcome → Type 0
QueuesAtSend directory spare p line o = QueuesPages directory spare p line o ⊎ QueuesNone line o

-- the lines of a session, of which each is answered, up to its end
abbrev pub session_lines : List ℕ → List (List ℕ)
session_lines x = map without_cr (cut (take 999999 x)).pieces

-- how many of these lines, which have these answers, are a SEND that was answered 250 OK
abbrev pub sends_taken : List (List ℕ) → List SnppAnswer → ℕ
sends_taken (line ∷ lines) (answer ∷ answers) = (if is_taken_send line answer then 1 else 0) + sends_taken lines answers
sends_taken lines answers = 0

-- a SEND that was answered 250 OK: the id and the text that were pending, and what the id stands for
pub record TakenSend : Type 0 where
  pub id : List ℕ
  pub target : Target
  pub text : List ℕ

-- Pages, of a session of these lines, which have these answers: for each SEND that was answered 250 OK, in order, one page for each
-- capcode of its id, with its text.
pub record ArePagesOfSends (directory : Directory) (lines : List (List ℕ)) (answers : List SnppAnswer) (pages : List Page) : Type 0 where
  pub sends : List TakenSend
  pub as_many : length sends ≡ sends_taken lines answers
  pub known : AllByRecursion (λ s. directory s.id ≡ Some s.target) sends
  pub pages_are : pages ≡ flat_map (λ s. pages_to s.target.capcodes s.target.function s.text) sends
