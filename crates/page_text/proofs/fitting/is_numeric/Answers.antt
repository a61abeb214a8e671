use Rattle.std.proofs.Common.{eq-eqb, eqb, eqb-true}
use Rattle.std.proofs.lemmas.List.Elements.{Decides-contains, contains_decides}
use Rattle.page_text.specs.Groups.{numeric_characters}
use Rattle.page_text.proofs.fitting.is_numeric.Goals as goal

pub returns : goal.returns
returns c =
    Decides-contains numeric_characters c.args.c c.contains.result
    (contains_decides eqb (λ a b. (eqb-true a b, eq-eqb a b)) numeric_characters c.args.c c.contains.result c.contains.ensures.cases)
