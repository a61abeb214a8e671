use Rattle.entry_line.specs.Chars.{char_of}
use Rattle.tap_entry.proofs.MarkReaders.{stands_on}
use Rattle.tap_entry.proofs.hearing.Listener.feed.Goals as goal

pub returns : goal.returns
returns c x marks h = rw (c.step.ensures.ear, c.step.ensures.mark) (stands_on _ x (char_of c.args.byte) marks h)
