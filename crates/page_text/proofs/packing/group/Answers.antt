use Rattle.std.proofs.Common.{◌<◌, ℕ, length, map, subst, ap, ◌∙◌}
use Rattle.std.proofs.lemmas.List.{length-map}
use Rattle.page_text.specs.Groups.{group_count, groups, numeric_code}
use Rattle.page_text.proofs.Groups.{length-groups_of}
use Rattle.page_text.proofs.packing.group.Goals as goal

pub packed-requires-clause-within : goal.packed-requires-clause-within
packed-requires-clause-within c =
    subst (λ (n : ℕ). c.args.k < n)
    (ap (λ f. length (groups f c.args.text.now)) c.in-Numeric.is ∙ length-groups_of 4 12 (map numeric_code c.args.text.now) ∙ ap (group_count 4) (length-map c.args.text.now numeric_code))
    c.requires.within

pub packed-requires-in-Alpha-clause-within : goal.packed-requires-in-Alpha-clause-within
packed-requires-in-Alpha-clause-within c =
    subst (λ (n : ℕ). c.args.k < n) (ap (λ f. length (groups f c.args.text.now)) c.in-Alpha.is ∙ length-groups_of 7 0 c.args.text.now) c.requires.within
