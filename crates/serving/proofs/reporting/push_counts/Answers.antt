use Rattle.std.proofs.Common.{◌++◌, codes}
use Rattle.serving.specs.ReportLine.{counted}
use Rattle.endings.proofs.Lists.{appended_then}
use Rattle.serving.proofs.reporting.push_counts.Goals as goal

pub returns-clause-items : goal.returns-clause-items
returns-clause-items c =
    let r = c.args.report in
    let line = c.args.line.now.items in
    let f1 = counted (codes "pages") r.pages in
    let f2 = f1 ++ counted (codes "continued") r.continued in
    let f3 = f2 ++ counted (codes "nak") r.nak in
    let f4 = f3 ++ counted (codes "body") r.body in
    let f5 = f4 ++ counted (codes "content") r.content in
    let f6 = f5 ++ counted (codes "form") r.form in
    let f7 = f6 ++ counted (codes "unknown") r.unknown in
    let f8 = f7 ++ counted (codes "text") r.text in
    let f9 = f8 ++ counted (codes "room") r.room in
    let e1 = appended_then line _ _ f1 (counted (codes "continued") r.continued) c.push_count.ensures.items c.push_count-2.ensures.items in
    let e2 = appended_then line _ _ f2 (counted (codes "nak") r.nak) e1 c.push_count-3.ensures.items in
    let e3 = appended_then line _ _ f3 (counted (codes "body") r.body) e2 c.push_count-4.ensures.items in
    let e4 = appended_then line _ _ f4 (counted (codes "content") r.content) e3 c.push_count-5.ensures.items in
    let e5 = appended_then line _ _ f5 (counted (codes "form") r.form) e4 c.push_count-6.ensures.items in
    let e6 = appended_then line _ _ f6 (counted (codes "unknown") r.unknown) e5 c.push_count-7.ensures.items in
    let e7 = appended_then line _ _ f7 (counted (codes "text") r.text) e6 c.push_count-8.ensures.items in
    let e8 = appended_then line _ _ f8 (counted (codes "room") r.room) e7 c.push_count-9.ensures.items in
    appended_then line _ _ f9 (counted (codes "wrong") r.wrong) e8 c.push_count-10.ensures.items
