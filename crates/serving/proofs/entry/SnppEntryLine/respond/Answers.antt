use Rattle.std.proofs.Common.{map}
use Rattle.entry_line.specs.Chars.{char_of}
use Rattle.serving.proofs.SnppSessions.{snpp_fed}
use Rattle.serving.proofs.entry.SnppEntryLine.respond.Goals as goal

pub returns : goal.returns
returns c = λ spare bytes session s none.
    snpp_fed c.args.settings.now spare c.args.self.now _ bytes c.args.byte session c.feed-answer.result _ _ _ _ s none (c.feed-answer.ensures spare (map char_of bytes) s.stands) c.reply.ensures c.snpp_ended.ensures
