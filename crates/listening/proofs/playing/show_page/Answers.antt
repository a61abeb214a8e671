use Rattle.std.proofs.Common.{ℕ, ◌++◌, refl}
use Rattle.page_text.specs.Line.{line_of}
use Rattle.receiver.specs.Receivers.{has_in, numbers_with}
use Rattle.wires.specs.declared.Failed.{Failed}
use Rattle.listening.specs.PageLines.{number_text}
use Rattle.listening.proofs.PlayedPages.{lines_turn, lines_fail, lines_all, lines_at_end}
use Rattle.listening.proofs.playing.show_page.Goals as goal

pub returns-in-Err : goal.returns-in-Err
returns-in-Err g c =
    lines_fail {E = Failed} (λ (number : ℕ). number_text number ++ line_of c.args.page.now.capcode c.args.page.now.function c.args.text.now)
    (numbers_with (has_in (g.G.Showing.holders c.args.group.now)) c.args.page.now.capcode) c.loop-k.k c.in-Some.number
    (g.O.Sink.state c.args.out.now) (g.O.Sink.state c.loop-k.out) (g.O.Sink.state c.show_line.new.out) (tt {0}) _ _ refl c.in-Some.ensures c.loop-k.invariant c.in-Err.ensures

pub returns-in_default : goal.returns-in_default
returns-in_default g c =
    lines_all {E = Failed} (λ (number : ℕ). number_text number ++ line_of c.args.page.now.capcode c.args.page.now.function c.args.text.now)
    (numbers_with (has_in (g.G.Showing.holders c.args.group.now)) c.args.page.now.capcode) c.loop-k.k
    (g.O.Sink.state c.args.out.now) (g.O.Sink.state c.loop-k.out) (tt {0}) c.in_default.ensures c.loop-k.invariant

pub loop-k-preserved : goal.loop-k-preserved
loop-k-preserved g c =
    lines_turn {E = Failed} (λ (number : ℕ). number_text number ++ line_of c.args.page.now.capcode c.args.page.now.function c.args.text.now)
    (numbers_with (has_in (g.G.Showing.holders c.args.group.now)) c.args.page.now.capcode) c.loop-k.k c.in-Some.number
    (g.O.Sink.state c.args.out.now) (g.O.Sink.state c.loop-k.out) (g.O.Sink.state c.show_line.new.out) (tt {0}) _ c.in-Some.ensures c.loop-k.invariant c.in_default-show_line.ensures

pub returns : goal.returns
returns g c =
    lines_at_end {E = Failed} (λ (number : ℕ). number_text number ++ line_of c.args.page.now.capcode c.args.page.now.function c.args.text.now)
    (has_in (g.G.Showing.holders c.args.group.now)) c.args.page.now.capcode c.loop-k.k
    (g.O.Sink.state c.args.out.now) (g.O.Sink.state c.loop-k.out) (tt {0}) c.loop-k-test.false c.loop-k.invariant
