use Rattle.std.proofs.Common.{Some, option_map, ap, ◌∙◌}
use Rattle.toml.specs.Data.{as_str}
use Rattle.subscribers.specs.Form.{optional, of_kind}
use Rattle.subscribers.proofs.values.text_or_none_at.Goals as goal

pub returns-in-None : goal.returns-in-None
unfolding optional
returns-in-None c = ap (of_kind as_str) c.in-None.ensures

pub returns-in-Some-as_str : goal.returns-in-Some-as_str
unfolding optional
returns-in-Some-as_str c = ap (option_map Some) c.in-Some-as_str.ensures ∙ ap (of_kind as_str) c.in-Some.ensures

pub returns-in-None-as_str : goal.returns-in-None-as_str
unfolding optional
returns-in-None-as_str c = ap (option_map Some) c.in-None-as_str.ensures ∙ ap (of_kind as_str) c.in-Some.ensures
