-- The report line of a session: docs/profile.md, "report".
use Rattle.std.specs.Prelude.{ℕ, List, [], ◌∷◌, ◌++◌, codes, decimal}
use Rattle.tap_terminal.specs.declared.report.Report.{Report}
use Rattle.snpp_entry.specs.declared.report.SnppReport.{SnppReport}
use Rattle.serving.specs.declared.session.SessionEnd.{SessionEnd}
use Rattle.serving.specs.declared.session.SessionEnd.TheVariants.{Ended, Forced, HungUp, LineLost}

-- the most bytes of a line
abbrev pub longest_line : ℕ
longest_line = 200

-- the word for how a session ended
abbrev pub end_word : SessionEnd → List ℕ
end_word Ended = codes "ended"
end_word HungUp = codes "hung-up"
end_word Forced = codes "forced"
end_word LineLost = codes "lost"

-- a name and its number in decimal without zeros in front, with a space before each
abbrev pub counted : List ℕ → ℕ → List ℕ
counted name number = codes " " ++ name ++ codes " " ++ decimal number

-- the numbers of a report, by their names
abbrev pub counted_all : Report → List ℕ
counted_all r =
    counted (codes "pages") r.pages ++ counted (codes "continued") r.continued ++ counted (codes "nak") r.nak ++ counted (codes "body") r.body
    ++ counted (codes "content") r.content ++ counted (codes "form") r.form ++ counted (codes "unknown") r.unknown ++ counted (codes "text") r.text
    ++ counted (codes "room") r.room ++ counted (codes "wrong") r.wrong

-- the session's number, how it ended, the numbers of its report, LF
unfoldable pub report_line : ℕ → SessionEnd → Report → List ℕ
report_line number end r = codes "session " ++ decimal number ++ codes " " ++ end_word end ++ counted_all r ++ 10 ∷ []

-- the same of an SNPP session
unfoldable pub snpp_report_line : ℕ → SessionEnd → SnppReport → List ℕ
snpp_report_line number end r =
    codes "snpp " ++ decimal number ++ codes " " ++ end_word end ++ counted (codes "pages") r.pages ++ counted (codes "refused") r.refused ++ 10 ∷ []
