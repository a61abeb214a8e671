use Rattle.std.proofs.Common.{◌≡◌, ◌+◌, ◌<◌, length, arith, refl, ap, subst, sym, ◌∙◌}
use Rattle.bits.specs.Bits.{word_bits}
use Rattle.bits.proofs.Lengths.{length-bits_of}
use Rattle.load.proofs.Counted.{CountsOn, counts-none, counts-more, nonempty, some_page, no_page}
use Rattle.load.proofs.counts.hear_pages.Goals as goal

pub loop-piece-init : goal.loop-piece-init
loop-piece-init c = record {
  capcodes = refl;
  few = omega (arith, ap length c.of-piece.ensures, length-bits_of 32 c.args.word);
  counted = subst (CountsOn c.args.group.now c.args.pages.now c.args.group.now c.args.pages.now (word_bits c.args.word)) (sym c.of-piece.ensures) (counts-none c.args.group.now c.args.pages.now (word_bits c.args.word));
}

pub loop-piece-preserved-then-is_some : goal.loop-piece-preserved-then-is_some
loop-piece-preserved-then-is_some c =
    let less : length c.feed_piece.new.piece < length c.loop-piece.piece = c.feed_piece.ensures.some (nonempty c.loop-piece.piece c.loop-piece-test.ensures.1) in
    record {
      capcodes = c.feed_piece.ensures.capcodes ∙ c.loop-piece.invariant.capcodes;
      few = omega (arith, less, c.loop-piece.invariant.few);
      counted = counts-more c.args.group.now c.args.pages.now (word_bits c.args.word) c.loop-piece.group c.feed_piece.new.self c.loop-piece.piece c.feed_piece.new.piece _ c.loop-piece.pages 1
          c.loop-piece.invariant.counted c.feed_piece.ensures.capcodes c.feed_piece.ensures.whole c.feed_piece.ensures.stands c.feed_piece.ensures.page
          (some_page c.feed_piece.new.self.ready c.feed_piece.result c.feed_piece.ensures.answer (sym c.if-is_some.ensures));
    }

pub loop-piece-preserved : goal.loop-piece-preserved
loop-piece-preserved c =
    let less : length c.feed_piece.new.piece < length c.loop-piece.piece = c.feed_piece.ensures.some (nonempty c.loop-piece.piece c.loop-piece-test.ensures.1) in
    let same : c.loop-piece.pages + 0 ≡ c.loop-piece.pages = omega arith in
    record {
      capcodes = c.feed_piece.ensures.capcodes ∙ c.loop-piece.invariant.capcodes;
      few = omega (arith, less, c.loop-piece.invariant.few);
      counted = subst (λ n. CountsOn c.args.group.now c.args.pages.now c.feed_piece.new.self n (word_bits c.args.word) c.feed_piece.new.piece) same
          (counts-more c.args.group.now c.args.pages.now (word_bits c.args.word) c.loop-piece.group c.feed_piece.new.self c.loop-piece.piece c.feed_piece.new.piece _ c.loop-piece.pages 0
          c.loop-piece.invariant.counted c.feed_piece.ensures.capcodes c.feed_piece.ensures.whole c.feed_piece.ensures.stands c.feed_piece.ensures.page
          (no_page c.feed_piece.new.self.ready c.feed_piece.result c.feed_piece.ensures.answer (sym c.if-is_some.ensures)));
    }
