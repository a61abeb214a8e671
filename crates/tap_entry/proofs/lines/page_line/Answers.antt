use Rattle.tap_entry.proofs.PageLines.{page_of_parts, no_text}
use Rattle.tap_entry.proofs.lines.page_line.Goals as goal

pub returns-in_default-text_line : goal.returns-in_default-text_line
returns-in_default-text_line c page behind h = no_text _ c.in-Some.id.now c.in-Some.rest.now c.in-Some.ensures c.in_default-text_line.ensures page behind h

pub returns : goal.returns
returns c = rw c.kept.ensures (page_of_parts c.args.x.now c.in-Some.id.now c.in-Some.rest.now c.in-Some-text_line.text.items c.in-Some-text_line.behind.now c.in-Some.ensures c.in-Some-text_line.ensures)
