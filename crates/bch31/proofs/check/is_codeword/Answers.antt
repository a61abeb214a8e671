use Rattle.std.proofs.Common.{◌%◌, count_ones, sym, ◌∙◌, eqb-true, eq-eqb}
use Rattle.bch31.proofs.Multiples.{codeword_remainder}
use Rattle.bch31.proofs.Fixes.{codeword_from}
use Rattle.bch31.proofs.check.is_codeword.Goals as goal

pub returns-then-remainder-eq0 : goal.returns-then-remainder-eq0
returns-then-remainder-eq0 c =
    (λ t. codeword_from c.args.w c.ranges.w.fits (sym c.remainder.ensures.value ∙ c.if-remainder-eq0.true) (eqb-true (count_ones c.args.w % 2) 0 t), λ w. eq-eqb (count_ones c.args.w % 2) 0 w.even)

pub returns-else-remainder-eq0 : goal.returns-else-remainder-eq0
returns-else-remainder-eq0 c =
    (λ t. absurd (c.if-remainder-eq0.false (eqb-true c.remainder.result 0 t)), λ w. absurd (c.if-remainder-eq0.false (c.remainder.ensures.value ∙ codeword_remainder w)))
