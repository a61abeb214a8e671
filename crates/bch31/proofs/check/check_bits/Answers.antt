use Rattle.std.proofs.Common.{sym, ap, ◌∙◌, arith, mod-eq_of_lt}
use Rattle.bch31.specs.Division.{remainder as remainder_of}
use Rattle.bch31.proofs.Fronts.{check_of-word_of}
use Rattle.bch31.proofs.check.check_bits.Goals as goal

pub returns-clause-value : goal.returns-clause-value
returns-clause-value c =
    c.remainder.ensures.value ∙ ap (remainder_of 31) (mod-eq_of_lt (omega arith)) ∙ sym (check_of-word_of c.args.d)
