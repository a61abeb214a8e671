use Rattle.std.proofs.Common.{ap, ◌∙◌}
use Rattle.std.specs.Prelude.{option_and_then}
use Rattle.toml.specs.Data.{as_integer}
use Rattle.subscribers.specs.Form.{required}
use Rattle.subscribers.proofs.values.integer_at.Goals as goal

pub returns-in-Some : goal.returns-in-Some
unfolding required
returns-in-Some c = c.as_integer.ensures ∙ ap (option_and_then as_integer) c.in-Some.ensures

pub returns-in-None : goal.returns-in-None
unfolding required
returns-in-None c = ap (option_and_then as_integer) c.in-None.ensures
