use Rattle.std.proofs.Common.{Some, option_map, SFits, w64, rules, ap, ◌∙◌}
use Rattle.std.proofs.lemmas.Int.{to_z-of_z}
use Rattle.toml.specs.Data.{as_integer}
use Rattle.subscribers.specs.Form.{optional, of_kind}
use Rattle.subscribers.proofs.values.integer_or_none_at.Goals as goal

pub returns-in-None : goal.returns-in-None
unfolding optional
returns-in-None c = ap (of_kind as_integer) c.in-None.ensures

pub returns-in-Some-as_integer : goal.returns-in-Some-as_integer
unfolding optional
returns-in-Some-as_integer c =
    let fits : SFits w64 c.in-Some-as_integer.number = search rules in
    rw (to_z-of_z w64 c.in-Some-as_integer.number fits) (ap (option_map Some) c.in-Some-as_integer.ensures ∙ ap (of_kind as_integer) c.in-Some.ensures)

pub returns-in-None-as_integer : goal.returns-in-None-as_integer
unfolding optional
returns-in-None-as_integer c = ap (option_map Some) c.in-None-as_integer.ensures ∙ ap (of_kind as_integer) c.in-Some.ensures
