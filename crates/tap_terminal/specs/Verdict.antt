-- How a block is judged: docs/profile.md, "judgement".
use Rattle.std.specs.Prelude.{ℕ, ◌+◌, ◌*◌, nat_lt, Bool, not, if◌then◌else◌, List, [], ◌++◌, length, Option, Some, None, Result, Ok, Err}
use Rattle.tap_block.specs.declared.ends.End.{End}
use Rattle.tap_block.specs.declared.ends.End.TheVariants.{Etx}
use Rattle.tap_block.specs.declared.faults.FieldFault.{FieldFault}
use Rattle.tap_block.specs.Fields.{read_field, content_parts}
use Rattle.page_text.specs.Page.{Page}
use Rattle.page_pool.specs.Cells.{cells_for}
use Rattle.page_pool.specs.Gains.{pages_to}
use Rattle.subscribers.specs.Directory.{Directory}
use Rattle.subscribers.specs.Parts.{Target}
use Rattle.tap_terminal.specs.declared.answers.Answer.{Answer}
use Rattle.tap_terminal.specs.declared.answers.Answer.TheVariants.{Ack, Nak, Rs}
use Rattle.tap_terminal.specs.declared.answers.Reason.{Reason}
use Rattle.tap_terminal.specs.declared.answers.Reason.TheVariants.{Body, Content, Form, Unknown, Text, Room}
use Rattle.page_text.specs.FitTest.{fits}
use Rattle.tap_terminal.specs.declared.terminal.TheConstants.{LONGEST_CONTENT}

-- the answer to a block, the content so far after it, and the pages that are queued
pub record Verdict : Type 0 where
  pub answer : Answer
  pub joined : List ℕ
  pub pages : List Page

-- the transaction is refused, and its content is dropped
abbrev pub refused : Reason → Verdict
refused reason = record { answer = Rs reason; joined = []; pages = [] }

-- both values, where both fields have one
abbrev pub both_values : Result (List ℕ) FieldFault → Result (List ℕ) FieldFault → Option (List ℕ × List ℕ)
both_values (Ok id) (Ok text) = Some (id, text)
both_values (Ok id) (Err fault) = None
both_values (Err fault) second = None

-- the values of the two fields of a content
abbrev pub values_of : Option (List ℕ × List ℕ) → Option (List ℕ × List ℕ)
values_of None = None
values_of (Some (first, second)) = both_values (read_field first) (read_field second)

-- a page of this text for each capcode of an id, in their order, where there is room for all of them
abbrev pub room_for : Target → List ℕ → ℕ → Verdict
room_for t text spare =
    if nat_lt spare (cells_for (length text) * length t.capcodes) then refused Room
    else record { answer = Ack; joined = []; pages = pages_to t.capcodes t.function text }

-- the text for what an id stands for, if it stands for something
abbrev pub text_for : Option Target → List ℕ → ℕ → Verdict
text_for None text spare = refused Unknown
text_for (Some t) text spare = if fits t.function text then room_for t text spare else refused Text

-- the values of the two fields, if both have one
abbrev pub fields_for : Directory → ℕ → Option (List ℕ × List ℕ) → Verdict
fields_for directory spare None = refused Form
fields_for directory spare (Some (id, text)) = text_for (directory id) text spare

-- a whole content
abbrev pub judge_content : Directory → ℕ → List ℕ → Verdict
judge_content directory spare content = fields_for directory spare (values_of (content_parts content))

-- the content so far and the body, by the end of the block: ETB and US go on
abbrev pub by_end : Directory → ℕ → End → List ℕ → Verdict
by_end directory spare Etx content = judge_content directory spare content
by_end directory spare other content = record { answer = Ack; joined = content; pages = [] }

-- The first row of the table of judgements that applies: a wrong trailer, a body of more than 250 characters, a content of more
-- than 2,200, and then the end.
abbrev pub verdict : Directory → ℕ → List ℕ → List ℕ → End → Bool → Verdict
verdict directory spare joined body e right =
    if not right then record { answer = Nak; joined = joined; pages = [] }
    else if nat_lt 250 (length body) then refused Body
    else if nat_lt LONGEST_CONTENT (length joined + length body) then refused Content
    else by_end directory spare e (joined ++ body)
