use Rattle.std.proofs.Common.{refl, subst}
use Rattle.std.specs.Prelude.{All, Contains}
use Rattle.std.proofs.lemmas.List.{take_all}
use Rattle.std.proofs.lemmas.List.Elements.{All-more}
use Rattle.page_text.specs.Groups.{numeric_characters}
use Rattle.page_text.proofs.fitting.are_numeric.Goals as goal

pub loop-c-preserved : goal.loop-c-preserved
loop-c-preserved c =
    All-more (Contains numeric_characters) c.args.text.now c.loop-c.c-index 0 c.loop-c-test.true c.loop-c.invariant (c.is_numeric.ensures.0 c.if-not-is_numeric.false)

pub returns : goal.returns
returns c =
    (λ _. subst (All (Contains numeric_characters)) (take_all c.loop-c.c-index c.args.text.now c.loop-c-test.false) c.loop-c.invariant, λ _. refl)
