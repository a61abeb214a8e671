use Rattle.std.proofs.Common.{ℕ, List, subst}
use Rattle.wires.specs.Pieces.{taken_of}
use Rattle.wires.specs.Written.{Puts}
use Rattle.receiver.specs.Heard.{heard}
use Rattle.receiver.specs.Listeners.{is_one_of}
use Rattle.receiver.specs.Receivers.{has_in, numbers_with}
use Rattle.listening.specs.PageLines.{group_lines, lines_for}
use Rattle.listening.proofs.HeardFronts.{group_lines-grow}
use Rattle.listening.proofs.Listens.{prints_whole}
use Rattle.listening.proofs.PlayedPages.{prints_no_page, prints_page}
use Rattle.listening.proofs.playing.GroupListener.hear.Goals as goal

pub returns-in_default-clause-prints : goal.returns-in_default-clause-prints
returns-in_default-clause-prints g c = λ bits lt h.
    prints_no_page (has_in c.args.self.now.holders) (heard (is_one_of c.args.self.now.capcodes)) bits (taken_of c.args.piece.now c.feed_piece.new.piece) _ _ (g.O.Sink.state c.args.out.now) c.in_default.is c.feed_piece.ensures.answer (c.feed_piece.ensures.page bits h)

pub returns-clause-prints : goal.returns-clause-prints
returns-clause-prints g c = λ bits lt h.
    prints_whole (group_lines c.args.self.now) bits c.args.piece.now c.feed_piece.new.piece (g.O.Sink.state c.args.out.now) (g.O.Sink.state c.show_ready.new.out) c.show_ready.result
    (group_lines-grow c.args.self.now) c.feed_piece.ensures.whole
    (prints_page (has_in c.args.self.now.holders) (heard (is_one_of c.args.self.now.capcodes)) bits (taken_of c.args.piece.now c.feed_piece.new.piece) _ c.feed_piece.result c.in-Some.page c.show_ready.ensures.text (g.O.Sink.state c.args.out.now)
    (g.O.Sink.state c.show_ready.new.out) c.show_ready.result
    c.in-Some.is c.feed_piece.ensures.answer (c.feed_piece.ensures.page bits h) c.show_ready.ensures.text_is
    (subst (λ (holders : List (ℕ × ℕ)). Puts (g.O.Sink.state c.args.out.now) (g.O.Sink.state c.show_ready.new.out)
    (lines_for c.in-Some.page.capcode c.in-Some.page.function c.show_ready.ensures.text (numbers_with (has_in holders) c.in-Some.page.capcode)) c.show_ready.result)
    c.feed_piece.ensures.holders c.show_ready.ensures.put))
