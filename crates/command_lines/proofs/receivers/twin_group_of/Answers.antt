use Rattle.std.proofs.Common.{ℕ, List, ◌∙◌, subst, sym}
use Rattle.std.specs.Prelude.{All, ◌≤◌}
use Rattle.receiver.specs.Receivers.{most_receivers}
use Rattle.command_lines.proofs.Pairs.{made_twice_prints}
use Rattle.command_lines.proofs.receivers.twin_group_of.Goals as goal

pub new-requires : goal.new-requires
new-requires c = record {
  numbers = subst (λ (pairs : List (ℕ × ℕ)). All (λ pair. (1 ≤ pair.0) × (pair.0 ≤ most_receivers)) pairs) (sym c.deref.ensures.value) c.in-Ok.ensures.numbers;
}

pub returns-clause-prints : goal.returns-clause-prints
returns-clause-prints c =
    made_twice_prints c.new.result c.args.receivers.now c.deref.result.now (c.deref.ensures.value ∙ c.in-Ok.ensures.pairs) c.new.ensures.capcodes c.new.ensures.has
