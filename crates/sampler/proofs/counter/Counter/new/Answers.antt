use Rattle.std.proofs.Common.{refl, ◌∙◌, ap, false, List, Bool}
use Rattle.sampler.specs.Stacked.{Counted}
use Rattle.wires.proofs.Pieces.{none_left}
use Rattle.sampler.proofs.counter.Counter.new.Goals as goal

abbrev counted : List Bool → Counted
counted ready = record { ready = ready; last = false; count = 0 }

pub returns : goal.returns
returns c = ap counted (c.of.ensures ∙ none_left 0 0 refl)
