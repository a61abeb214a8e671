use Rattle.std.proofs.Common.{List, ◌∷◌, [], ◌++◌, ◌∙◌, ap, codes, decimal}
use Rattle.serving.specs.ReportLine.{counted, end_word, snpp_report_line}
use Rattle.serving.proofs.reporting.snpp_written.Goals as goal

pub returns-clause-line : goal.returns-clause-line
unfolding snpp_report_line
returns-clause-line c =
    let first = c.push.ensures.items ∙ ap (λ (l : List _). l ++ codes "snpp ") c.new-line.ensures in
    let number = c.push_number.ensures.items ∙ ap (λ (l : List _). l ++ decimal c.args.number) first in
    let space = c.push-2.ensures.items ∙ ap (λ (l : List _). l ++ codes " ") number in
    let word = c.push-3.ensures.items ∙ (ap (λ (w : List _). c.push-2.new.line.items ++ w) c.word.ensures.word ∙ ap (λ (l : List _). l ++ end_word c.args.end) space) in
    let pages = c.push_count.ensures.items ∙ ap (λ (l : List _). l ++ counted (codes "pages") c.args.report.pages) word in
    let refused = c.push_count-2.ensures.items ∙ ap (λ (l : List _). l ++ counted (codes "refused") c.args.report.refused) pages in
    c.push-4.ensures.items ∙ ap (λ (l : List _). l ++ 10 ∷ []) refused
