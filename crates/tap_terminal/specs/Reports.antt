-- What the items of a session are counted as.
use Rattle.std.specs.Prelude.{ℕ, ◌+◌, ◌==◌, List, [], ◌∷◌, replicate, count_by}
use Rattle.tap_block.specs.declared.ends.End.{End}
use Rattle.tap_block.specs.declared.ends.End.TheVariants.{Etx, Etb, Us}
use Rattle.tap_block.specs.declared.items.Item.{Item}
use Rattle.tap_block.specs.declared.items.Item.TheVariants.{EmptyLine, Logon, WrongLine, Block, Bye}
use Rattle.tap_terminal.specs.declared.answers.Answer.{Answer}
use Rattle.tap_terminal.specs.declared.answers.Answer.TheVariants.{Ack, Nak, Rs}
use Rattle.tap_terminal.specs.declared.answers.Reason.{Reason}
use Rattle.tap_terminal.specs.declared.answers.Reason.TheVariants.{Body, Content, Form, Unknown, Text, Room}
use Rattle.tap_terminal.specs.declared.report.Report.{Report}

-- what an item is counted as
pub data Counter : Type 0 where
  a_page : Counter
  a_continued : Counter
  a_nak : Counter
  refusal : Reason → Counter
  a_wrong : Counter
  uncounted : Counter

-- a block by its end and its answer
abbrev pub block_counter : End → Answer → Counter
block_counter Etx Ack = a_page
block_counter Etb Ack = a_continued
block_counter Us Ack = a_continued
block_counter e Nak = a_nak
block_counter e (Rs reason) = refusal reason
block_counter e other = uncounted

-- an item by its answer
abbrev pub counter_of : Item → Answer → Counter
counter_of EmptyLine answer = uncounted
counter_of Logon answer = uncounted
counter_of WrongLine answer = a_wrong
counter_of (Block e right size) answer = block_counter e answer
counter_of Bye answer = uncounted

-- an item is counted once, and a block whose pages are queued once for each of them
abbrev pub counters_by : Counter → ℕ → List Counter
counters_by a_page pages = replicate pages a_page
counters_by other pages = other ∷ []

abbrev pub counters_of : Item → Answer → ℕ → List Counter
counters_of item answer pages = counters_by (counter_of item answer) pages

-- the number of a counter
abbrev pub counter_number : Counter → ℕ
counter_number a_page = 0
counter_number a_continued = 1
counter_number a_nak = 2
counter_number (refusal Body) = 3
counter_number (refusal Content) = 4
counter_number (refusal Form) = 5
counter_number (refusal Unknown) = 6
counter_number (refusal Text) = 7
counter_number (refusal Room) = 8
counter_number a_wrong = 9
counter_number uncounted = 10

-- how often a counter stands in a list
abbrev pub counter_times : Counter → List Counter → ℕ
counter_times counter counters = count_by (λ k. counter_number k == counter_number counter) counters

-- how often each counter stands in a list
abbrev pub counts : List Counter → Report
counts counters = record {
  pages = counter_times a_page counters;
  continued = counter_times a_continued counters;
  nak = counter_times a_nak counters;
  body = counter_times (refusal Body) counters;
  content = counter_times (refusal Content) counters;
  form = counter_times (refusal Form) counters;
  unknown = counter_times (refusal Unknown) counters;
  text = counter_times (refusal Text) counters;
  room = counter_times (refusal Room) counters;
  wrong = counter_times a_wrong counters;
}

-- a report with one item more
abbrev pub added : Report → Counter → Report
added r a_page = record r { pages = r.pages + 1 }
added r a_continued = record r { continued = r.continued + 1 }
added r a_nak = record r { nak = r.nak + 1 }
added r (refusal Body) = record r { body = r.body + 1 }
added r (refusal Content) = record r { content = r.content + 1 }
added r (refusal Form) = record r { form = r.form + 1 }
added r (refusal Unknown) = record r { unknown = r.unknown + 1 }
added r (refusal Text) = record r { text = r.text + 1 }
added r (refusal Room) = record r { room = r.room + 1 }
added r a_wrong = record r { wrong = r.wrong + 1 }
added r uncounted = r

-- a report with an item more, whose block queued so many pages
abbrev pub added_pages : Report → Counter → ℕ → Report
added_pages r a_page pages = record r { pages = r.pages + pages }
added_pages r other pages = added r other

-- how many pages and other items a report counts
abbrev pub tally : Report → ℕ
tally r = r.pages + r.continued + r.nak + r.body + r.content + r.form + r.unknown + r.text + r.room + r.wrong
