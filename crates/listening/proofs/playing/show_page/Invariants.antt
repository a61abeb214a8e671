use Rattle.std.proofs.Common.{take, Ok}
use Rattle.receiver.specs.Receivers.{has_in, numbers_with}
use Rattle.wires.specs.Written.{Puts}
use Rattle.wires.specs.declared.Failed.{Failed}
use Rattle.listening.specs.PageLines.{lines_for}
use Rattle.listening.proofs.playing.show_page.Given as goal

-- the lines of the first receivers are put
abbrev pub invariant-loop-k : goal.invariant-loop-k
invariant-loop-k g l = Puts {E = Failed} (g.O.Sink.state l.fn.out) (g.O.Sink.state l.out) (lines_for l.page.capcode l.page.function l.text (take l.k (numbers_with (has_in (g.G.Showing.holders l.group)) l.page.capcode))) (Ok (tt {0}))
