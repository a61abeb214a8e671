use Rattle.std.proofs.Common.{refl, ◌∙◌}
use Rattle.calling.proofs.CallEnds.{no_first}
use Rattle.calling.proofs.Calling.{begun}
use Rattle.calling.proofs.conversing.converse.Goals as goal

pub returns-in-Err : goal.returns-in-Err
returns-in-Err g c = λ few none. no_first _ _ _ _ _ _ few (c.new-calling.ensures.password ∙ c.password.ensures.value) c.new-calling.ensures.stands none c.in-Err.ensures

pub returns : goal.returns
returns g c = λ few none. c.hold.ensures _ (begun _ _ _ _ _ _ few (c.new-calling.ensures.password ∙ c.password.ensures.value) c.new-calling.ensures.stands none refl c.in_default.ensures)
