use Rattle.subscribers.specs.Directory.{directory_of}
use Rattle.tap_terminal.proofs.Verdicts.{form_fault, no_values, no_first, no_second, both_read, fields_done}
use Rattle.tap_terminal.proofs.contents.judge_content.Goals as goal

pub returns-in_default-clause-done : goal.returns-in_default-clause-done
returns-in_default-clause-done c =
    form_fault (directory_of c.args.settings.now) c.args.content.now _ c.args.pool.now c.refused.ensures.answer c.refused.ensures.pages
    (no_values c.args.content.now c.in_default.ensures)

pub returns-in_default-unescape-clause-done : goal.returns-in_default-unescape-clause-done
returns-in_default-unescape-clause-done c =
    form_fault (directory_of c.args.settings.now) c.args.content.now _ c.args.pool.now c.refused-in_default-unescape.ensures.answer c.refused-in_default-unescape.ensures.pages
    (no_first c.args.content.now c.in-Some.first.now c.in-Some.second.now _ c.in-Some.ensures c.in_default-unescape.ensures.value)

pub returns-in_default-unescape-2-clause-done : goal.returns-in_default-unescape-2-clause-done
returns-in_default-unescape-2-clause-done c =
    form_fault (directory_of c.args.settings.now) c.args.content.now _ c.args.pool.now c.refused-in_default-unescape-2.ensures.answer c.refused-in_default-unescape-2.ensures.pages
    (no_second c.args.content.now c.in-Some.first.now c.in-Some.second.now _ _ c.in-Some.ensures c.in-Ok.ensures.value c.in_default-unescape-2.ensures.value)

pub returns-clause-done : goal.returns-clause-done
returns-clause-done c = fields_done (directory_of c.args.settings.now) c.args.content.now _ _ c.queue.result c.args.pool.now c.queue.new.pool
    (both_read c.args.content.now c.in-Some.first.now c.in-Some.second.now _ _ c.in-Some.ensures c.in-Ok.ensures.value c.in-Ok-unescape.ensures.value) c.queue.ensures.done
