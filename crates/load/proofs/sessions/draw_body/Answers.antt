use Rattle.std.proofs.Common.{◌<◌, ◌^◌, ◌++◌, arith, subst, sym, ap, ◌∙◌}
use Rattle.std.proofs.lemmas.Fmt.{IsAscii-decimal}
use Rattle.std.specs.Fmt.{decimal}
use Rattle.std.specs.List.{AllByRecursion}
use Rattle.tap_block.specs.Chars.{IsChar}
use Rattle.load.proofs.Drawn.{chars-more, chars-ascii}
use Rattle.load.proofs.sessions.draw_body.Goals as goal

pub returns-clause-characters : goal.returns-clause-characters
returns-clause-characters c =
    let fits : c.id_at.result < 2 ^ 64 = omega (arith, c.id_at.ensures, c.below-i.ensures.below) in
    let number = c.push_number.ensures.items ∙ ap (λ l. l ++ decimal c.id_at.result) c.new-body.ensures in
    let id : AllByRecursion IsChar c.push_number.new.line.items = subst (AllByRecursion IsChar) (sym number) (chars-ascii (decimal c.id_at.result) (IsAscii-decimal c.id_at.result fits)) in
    let before : AllByRecursion IsChar c.push.new.line.items = subst (AllByRecursion IsChar) (sym c.push.ensures.items) (chars-more c.push_number.new.line.items 13 id (omega arith)) in
    subst (AllByRecursion IsChar) (sym c.push-2.ensures.items) (chars-more c.draw_text.new.body.items 13 (c.draw_text.ensures.characters before) (omega arith))
