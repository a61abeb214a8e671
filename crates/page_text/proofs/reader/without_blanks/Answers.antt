use Rattle.std.proofs.Common.{◌-◌, arith}
use Rattle.page_text.proofs.Texts.{stripped-front, stripped-front-blank}
use Rattle.page_text.proofs.reader.without_blanks.Goals as goal

pub loop-left-preserved : goal.loop-left-preserved
loop-left-preserved c = record {
  within = omega (arith, c.loop-left.invariant.within);
  same =
      stripped-front-blank c.args.blank c.args.text.now c.loop-left.left (c.loop-left.left - 1) (omega (arith, c.loop-left-test.true)) c.loop-left.invariant.within
      c.if-text-left.true c.loop-left.invariant.same;
}

pub returns-else-text-left-clause-text : goal.returns-else-text-left-clause-text
returns-else-text-left-clause-text c =
    stripped-front c.args.blank c.args.text.now c.loop-left.left (c.loop-left.left - 1) (omega (arith, c.loop-left-test.true)) c.loop-left.invariant.within
    c.if-text-left.false c.loop-left.invariant.same
