use Rattle.std.proofs.Common.{ap, map, sym, ◌∙◌}
use Rattle.std.proofs.lemmas.List.{length-map}
use Rattle.page_text.specs.Groups.{group_count, numeric_code}
use Rattle.page_text.proofs.Groups.{length-groups_of}
use Rattle.page_text.proofs.packing.word_count.Goals as goal

pub returns-in-Numeric-clause-groups : goal.returns-in-Numeric-clause-groups
returns-in-Numeric-clause-groups c =
    rw c.in-Numeric.is (λ text e. length-groups_of 4 12 (map numeric_code text) ∙ ap (group_count 4) (length-map text numeric_code ∙ e) ∙ sym c.count.ensures)

pub returns-in-Alpha-clause-groups : goal.returns-in-Alpha-clause-groups
returns-in-Alpha-clause-groups c = rw c.in-Alpha.is (λ text e. length-groups_of 7 0 text ∙ ap (group_count 7) e ∙ sym c.count-in-Alpha.ensures)
