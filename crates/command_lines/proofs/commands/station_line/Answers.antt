use Rattle.std.proofs.Common.{subst, sym, ℕ, List}
use Rattle.command_lines.specs.Commands.{IsCountWord}
use Rattle.command_lines.proofs.CommandLines.{last_of_four}
use Rattle.command_lines.proofs.commands.station_line.Goals as goal

pub returns-in_default-count_of : goal.returns-in_default-count_of
returns-in_default-count_of c = λ address settings air count h.
    c.in_default-count_of.ensures count
    (subst (λ (w : List ℕ). IsCountWord 1000 w count) (sym c.as_str.ensures.value)
    (last_of_four c.args.words.now c.count-item.result address settings air count c.in-len4.len_at_least c.in-len4.len_below c.count-item.is h))
