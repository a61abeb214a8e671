use Rattle.std.proofs.Common.{refl, ◌∙◌}
use Rattle.wires.proofs.Pieces.{none_left}
use Rattle.sampler.proofs.taken.OneByOne.over.Goals as goal

pub returns-clause-ready : goal.returns-clause-ready
returns-clause-ready g c = c.of.ensures ∙ none_left 0 0 refl
