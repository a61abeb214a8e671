use Rattle.serving.proofs.Protocols.{tap_fed}
use Rattle.serving.proofs.entry.TerminalEntryLine.respond.Goals as goal

pub returns : goal.returns
returns c = λ spare bytes session s none.
    let h = c.feed-answer.ensures.hears _ spare _ session s in
    tap_fed c.args.settings.now spare _ bytes c.args.byte session c.feed-answer.result _ _ _ _ h c.reply.ensures (c.ended.ensures _ _ _ _ _ _ h.stands)
