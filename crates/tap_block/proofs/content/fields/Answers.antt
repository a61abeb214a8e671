use Rattle.std.proofs.Common.{ap, length, arith}
use Rattle.tap_block.proofs.Parts.{no_parts, no_second, no_more}
use Rattle.tap_block.proofs.content.fields.Goals as goal

pub returns-in_default : goal.returns-in_default
returns-in_default c a b p = no_parts _ a b c.in_default.ensures p

pub returns-in_default-line_of : goal.returns-in_default-line_of
returns-in_default-line_of c a b p = no_second _ _ _ a b c.in-Some.ensures.0 c.in-Some.ensures.1 c.in_default-line_of.ensures p

pub returns-else-is_empty : goal.returns-else-is_empty
returns-else-is_empty c a b p =
    let e = no_more _ _ _ _ _ a b c.in-Some.ensures.0 c.in-Some.ensures.1 c.in-Some-line_of.ensures.0 c.in-Some-line_of.ensures.1 p in
    let k = ap length e in
    grind arith
