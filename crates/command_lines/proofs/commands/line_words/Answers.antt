use Rattle.std.proofs.Common.{◌≡◌, subst, sym, ◌∙◌, ℕ, List, arith}
use Rattle.std.proofs.lemmas.Grind.{common_steps}
use Rattle.command_lines.specs.Commands.{IsSeedWord}
use Rattle.command_lines.proofs.CommandLines.{are_line, last_of_three, other_bytes, same_bytes, same_files}
use Rattle.command_lines.proofs.commands.line_words.Goals as goal

pub returns-in_default-seed_of : goal.returns-in_default-seed_of
returns-in_default-seed_of c = λ air line seed h.
    c.in_default-seed_of.ensures seed
    (subst (λ (w : List ℕ). IsSeedWord w seed) (sym c.as_str.ensures.value)
    (last_of_three c.args.words.now c.seed-item.result air line seed c.in-len3.len_at_least c.in-len3.len_below c.seed-item.is h))

pub returns-then-eq : goal.returns-then-eq
returns-then-eq c = λ air line seed h.
    let same : c.as_str-air.result.now ≡ c.as_str-line.result.now = same_bytes _ _ _ c.eq.ensures c.if-eq.true in
    same_files c.args.words.now c.air-item.result c.line-item.result air line seed c.in-len3.len_at_least c.in-len3.len_below c.air-item.is c.line-item.is
    (sym c.as_str-air.ensures.value ∙ (same ∙ c.as_str-line.ensures.value)) h

pub returns : goal.returns
returns c =
    are_line c.args.words.now c.air-item.result c.line-item.result c.seed-item.result c.as_str-air.result.now c.as_str-line.result.now c.as_str.result.now _
    c.in-len3.len_at_least c.in-len3.len_below c.air-item.is c.line-item.is c.seed-item.is
    c.as_str-air.ensures.value c.as_str-line.ensures.value c.as_str.ensures.value
    (grind (arith, common_steps)) (grind (arith, common_steps)) (other_bytes _ _ _ c.eq.ensures c.if-eq.false) c.in-Some.ensures
