-- What a session is counted as.
use Rattle.std.specs.Prelude.{ℕ, ◌+◌, Bool, true, false, List, length, count_by, if◌then◌else◌}
use Rattle.page_text.specs.Page.{Page}
use Rattle.snpp_entry.specs.declared.answers.SnppAnswer.{SnppAnswer}
use Rattle.snpp_entry.specs.declared.answers.SnppAnswer.TheVariants.{Nothing, Ok, Bye, TooLong, Command, Twice, Missing, Pager, Text, Room}
use Rattle.snpp_entry.specs.declared.report.SnppReport.{SnppReport}

-- the answers that refuse a line
abbrev pub is_refusal : SnppAnswer → Bool
is_refusal Nothing = false
is_refusal Ok = false
is_refusal Bye = false
is_refusal TooLong = false
is_refusal Command = true
is_refusal Twice = true
is_refusal Missing = true
is_refusal Pager = true
is_refusal Text = true
is_refusal Room = true

-- how many pages were queued, and how many lines were refused
abbrev pub snpp_report_of : List SnppAnswer → List Page → SnppReport
snpp_report_of answers pages = record { pages = length pages; refused = count_by is_refusal answers }

-- a report with one answer more, and so many pages
abbrev pub snpp_added : SnppReport → SnppAnswer → ℕ → SnppReport
snpp_added r answer n = record { pages = r.pages + n; refused = r.refused + (if is_refusal answer then 1 else 0) }
