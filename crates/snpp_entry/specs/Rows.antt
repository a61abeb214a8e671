-- How a line is answered: docs/profile.md, "SNPP lines", by the first row that applies.
use Rattle.std.specs.Prelude.{ℕ, ◌*◌, nat_lt, Bool, ◌||◌, List, [], ◌∷◌, length, codes, Option, Some, None, if◌then◌else◌}
use Rattle.std.specs.Str.{str_eq_ignore_ascii_case}
use Rattle.codeword.specs.declared.functions.Function.{Function}
use Rattle.codeword.specs.declared.functions.Function.TheVariants.{Numeric, Tone1, Tone2, Alpha}
use Rattle.page_text.specs.Page.{Page}
use Rattle.page_pool.specs.Cells.{cells_for}
use Rattle.page_pool.specs.Gains.{pages_to}
use Rattle.subscribers.specs.Parts.{Target}
use Rattle.subscribers.specs.Directory.{Directory}
use Rattle.snpp_entry.specs.declared.answers.SnppAnswer.{SnppAnswer}
use Rattle.snpp_entry.specs.declared.answers.SnppAnswer.TheVariants.{Ok, Bye, Command, Twice, Missing, Pager, Text, Room}
use Rattle.snpp_entry.specs.declared.verbs.Verb.{Verb}
use Rattle.snpp_entry.specs.declared.verbs.Verb.TheVariants.{Page as PAGE, Mess as MESS, Rese as RESE, Send as SEND, Quit as QUIT, Other as OTHER}
use Rattle.page_text.specs.FitTest.{fits}
use Rattle.snpp_entry.specs.Lines.{verb, argument}

-- the id and the text that are pending, or none
pub record Pending : Type 0 where
  pub id : Option (List ℕ)
  pub text : Option (List ℕ)

-- nothing is pending
abbrev pub nothing : Pending
nothing = record { id = None; text = None }

-- the answer to a line, what is pending after it, and the pages that are queued
pub record Outcome : Type 0 where
  pub answer : SnppAnswer
  pub pending : Pending
  pub pages : List Page

-- no page is queued
abbrev pub without_page : SnppAnswer → Pending → Outcome
without_page answer p = record { answer = answer; pending = p; pages = [] }

-- a word, read without regard to case
abbrev pub is_word : List ℕ → List ℕ → Bool
is_word v w = str_eq_ignore_ascii_case v w

-- the verb that a word is
abbrev pub verb_of : List ℕ → Verb
verb_of v =
    if is_word v (codes "PAGE") || is_word v (codes "PAGER") then PAGE
    else if is_word v (codes "MESS") || is_word v (codes "MESSAGE") then MESS
    else if is_word v (codes "RESE") || is_word v (codes "RESET") then RESE
    else if is_word v (codes "SEND") then SEND
    else if is_word v (codes "QUIT") then QUIT
    else OTHER

-- an id, where none is pending: it is unknown, or is pending from now on
abbrev pub with_id : Pending → List ℕ → Option Target → Outcome
with_id p id None = without_page Pager p
with_id p id (Some t) = without_page Ok (record p { id = Some id })

-- an id: a second one, an unknown one, or one that is pending from now on
abbrev pub page_row : Directory → Pending → List ℕ → Option (List ℕ) → Outcome
page_row directory p id (Some pending) = without_page Twice p
page_row directory p id None = with_id p id (directory id)

-- a text: a second one, or one that is pending from now on
abbrev pub mess_row : Pending → List ℕ → Option (List ℕ) → Outcome
mess_row p text (Some pending) = without_page Twice p
mess_row p text None = without_page Ok (record p { text = Some text })

-- a page of this text for each capcode of an id: the text is wrong, there is no room for all of them, or they are queued in their order
abbrev pub send_text : ℕ → Target → List ℕ → Outcome
send_text spare t text =
    if fits t.function text then
    (if nat_lt spare (cells_for (length text) * length t.capcodes) then without_page Room nothing
    else record { answer = Ok; pending = nothing; pages = pages_to t.capcodes t.function text })
    else without_page Text nothing

-- the text of the pages of an id with this function: the one that is pending, or else the empty one of a tone, or none
abbrev pub pending_text : Function → Option (List ℕ) → Option (List ℕ)
pending_text function (Some text) = Some text
pending_text Tone1 None = Some []
pending_text Tone2 None = Some []
pending_text Numeric None = None
pending_text Alpha None = None

-- the pages of an id: the text is missing, or there is one
abbrev pub sent_for : ℕ → Pending → Target → Option (List ℕ) → Outcome
sent_for spare p t None = without_page Missing p
sent_for spare p t (Some text) = send_text spare t text

-- the same, by what the id stands for
abbrev pub send_to : ℕ → Pending → Option Target → Outcome
send_to spare p None = without_page Missing p
send_to spare p (Some t) = sent_for spare p t (pending_text t.function p.text)

-- a page: the id is missing, or there is one
abbrev pub send_row : Directory → ℕ → Pending → Option (List ℕ) → Outcome
send_row directory spare p None = without_page Missing p
send_row directory spare p (Some id) = send_to spare p (directory id)

-- a verb without an argument. With one the line is no command
abbrev pub alone : List ℕ → Pending → Outcome → Outcome
alone [] p o = o
alone (c ∷ a) p o = without_page Command p

-- a line that isn't too long, by its verb
abbrev pub by_verb : Directory → ℕ → Pending → Verb → List ℕ → Outcome
by_verb directory spare p PAGE a = page_row directory p a p.id
by_verb directory spare p MESS a = mess_row p a p.text
by_verb directory spare p RESE a = alone a p (without_page Ok nothing)
by_verb directory spare p SEND a = alone a p (send_row directory spare p p.id)
by_verb directory spare p QUIT a = alone a p (without_page Bye p)
by_verb directory spare p OTHER a = without_page Command p

-- any line
abbrev pub outcome : Directory → ℕ → Pending → List ℕ → Outcome
outcome directory spare p line =
    if nat_lt 1100 (length line) then without_page Command p else by_verb directory spare p (verb_of (verb line)) (argument line)
