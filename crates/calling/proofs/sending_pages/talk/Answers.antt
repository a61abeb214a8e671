use Rattle.std.proofs.Common.{◌++◌, ◌∙◌, List, ap, drop, length, subst, sym}
use Rattle.tap_entry.specs.Client.{all_are}
use Rattle.calling.specs.Conversations.{CallStaysOpen}
use Rattle.calling.specs.Progress.{unfinished}
use Rattle.calling.proofs.sending_pages.talk.Goals as goal

pub returns-clause-held : goal.returns-clause-held
returns-clause-held g c = λ none.
    let left = drop (length c.converse-ending.new.done.items) c.args.pages.now.pages in
    let e = c.fill.ensures.filled ∙ ap (λ o. c.converse-ending.new.done.items ++ all_are o left) (c.rest.ensures ∙ ap unfinished c.logon.ensures) in
    subst (λ (z : List _). CallStaysOpen c.args.pages.now (g.W.Wire.state c.args.wire.now) (g.W.Wire.state c.converse-ending.new.wire) z c.converse-ending.result) (sym e) (c.converse-ending.ensures c.fill.ensures.few none)
