use Rattle.std.proofs.Common.{List, ℕ, Ok, subst}
use Rattle.page_text.specs.Line.{line_of}
use Rattle.wires.specs.Written.{Puts}
use Rattle.wires.specs.declared.Failed.{Failed}
use Rattle.wires.proofs.Written.{Puts-then}
use Rattle.listening.specs.PageLines.{number_text}
use Rattle.listening.proofs.playing.show_line.Goals as goal

pub returns : goal.returns
returns g c =
    Puts-then {E = Failed} (g.O.Sink.state c.args.out.now) (g.O.Sink.state c.put.new.self) (g.O.Sink.state c.line.new.sink) (number_text c.args.number)
    (line_of c.args.page.now.capcode c.args.page.now.function c.args.text.now) (tt {0}) c.line.result
    (subst (λ (p : List ℕ). Puts {E = Failed} (g.O.Sink.state c.args.out.now) (g.O.Sink.state c.put.new.self) p (Ok (tt {0}))) c.number_digits.ensures c.in_default.ensures) c.line.ensures
