use Rattle.std.proofs.Common.{take}
use Rattle.listening.proofs.playing.show_ready.Goals as goal

pub returns : goal.returns
returns g c = record { text = take c.text_of-length.result c.text_of-length.new.into; text_is = c.text_of-length.ensures.text; put = c.show_page.ensures }
