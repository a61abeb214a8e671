use Rattle.std.proofs.Common.{◌<◌, length, sum, arith, refl, ap, subst, sym, ◌∙◌}
use Rattle.bits.specs.Bits.{word_bits}
use Rattle.bits.proofs.Lengths.{length-bits_of}
use Rattle.load.specs.Counting.{ready_line}
use Rattle.load.proofs.Counted.{nonempty}
use Rattle.load.proofs.CountedLines.{LinesOn, lines-none, lines-more, none_ready, one_ready}
use Rattle.load.proofs.counts.hear_lines.Goals as goal

pub loop-piece-init : goal.loop-piece-init
loop-piece-init c =
    let lines = c.args.lines.now in
    record {
      capcodes = refl;
      few = omega (arith, ap length c.of-piece.ensures, length-bits_of 32 c.args.word);
      counted = subst (LinesOn c.args.group.now lines.count lines.bytes lines.sum c.args.group.now lines.count lines.bytes lines.sum (word_bits c.args.word)) (sym c.of-piece.ensures)
          (lines-none c.args.group.now lines.count lines.bytes lines.sum (word_bits c.args.word));
    }

pub loop-piece-preserved-in-Some : goal.loop-piece-preserved-in-Some
loop-piece-preserved-in-Some c =
    let less : length c.feed_piece.new.piece < length c.loop-piece.piece = c.feed_piece.ensures.some (nonempty c.loop-piece.piece c.loop-piece-test.ensures.1) in
    let lines = c.args.lines.now in
    let ready = c.feed_piece.new.self.ready in
    record {
      capcodes = c.feed_piece.ensures.capcodes ∙ c.loop-piece.invariant.capcodes;
      few = omega (arith, less, c.loop-piece.invariant.few, c.add_page.ensures.count);
      counted = lines-more c.args.group.now lines.count lines.bytes lines.sum (word_bits c.args.word) c.loop-piece.group c.feed_piece.new.self c.loop-piece.piece c.feed_piece.new.piece _
          c.loop-piece.lines.count c.loop-piece.lines.bytes c.loop-piece.lines.sum 1 (length (ready_line ready)) (sum (ready_line ready))
          c.add_page.new.lines.count c.add_page.new.lines.bytes c.add_page.new.lines.sum
          c.loop-piece.invariant.counted c.feed_piece.ensures.capcodes c.feed_piece.ensures.whole c.feed_piece.ensures.stands c.feed_piece.ensures.page
          (one_ready ready c.in-Some.page (sym c.in-Some.is ∙ c.feed_piece.ensures.answer)) refl refl c.add_page.ensures.count c.add_page.ensures.bytes c.add_page.ensures.sum;
    }

pub loop-piece-preserved : goal.loop-piece-preserved
loop-piece-preserved c =
    let less : length c.feed_piece.new.piece < length c.loop-piece.piece = c.feed_piece.ensures.some (nonempty c.loop-piece.piece c.loop-piece-test.ensures.1) in
    let lines = c.args.lines.now in
    let none = none_ready c.feed_piece.new.self.ready (sym c.in_default.is ∙ c.feed_piece.ensures.answer) in
    record {
      capcodes = c.feed_piece.ensures.capcodes ∙ c.loop-piece.invariant.capcodes;
      few = omega (arith, less, c.loop-piece.invariant.few);
      counted = lines-more c.args.group.now lines.count lines.bytes lines.sum (word_bits c.args.word) c.loop-piece.group c.feed_piece.new.self c.loop-piece.piece c.feed_piece.new.piece _
          c.loop-piece.lines.count c.loop-piece.lines.bytes c.loop-piece.lines.sum 0 0 0 c.loop-piece.lines.count c.loop-piece.lines.bytes c.loop-piece.lines.sum
          c.loop-piece.invariant.counted c.feed_piece.ensures.capcodes c.feed_piece.ensures.whole c.feed_piece.ensures.stands c.feed_piece.ensures.page
          none.0 none.1 none.2 (omega arith) (omega arith) (omega arith);
    }
