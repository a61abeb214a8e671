use Rattle.std.proofs.Common.{◌≡◌, sym, ap, ◌∙◌, cond, ◌++◌, ◌∷◌, [], true, false, ◌==◌, arith}
use Rattle.std.proofs.lemmas.Bool.Decides.{nat_tests}
use Rattle.snpp_entry.specs.Lines.{without_cr}
use Rattle.snpp_entry.proofs.Pieces.{line_of-push}
use Rattle.snpp_entry.proofs.words.line_of.Goals as goal

pub returns-then-last-eq-CR : goal.returns-then-last-eq-CR
returns-then-last-eq-CR c =
    let t : (c.in-Some.last.now == 13) ≡ true = (let h = c.if-last-eq-CR.true in grind (arith, nat_tests)) in
    record { line = sym (ap without_cr c.in-Some.ensures.cases.0 ∙ line_of-push c.in-Some.front.now c.in-Some.last.now ∙ ap (λ b. cond b c.in-Some.front.now (c.in-Some.front.now ++ c.in-Some.last.now ∷ [])) t) }

pub returns-else-last-eq-CR : goal.returns-else-last-eq-CR
returns-else-last-eq-CR c =
    let t : (c.in-Some.last.now == 13) ≡ false = (let h = c.if-last-eq-CR.false in grind (arith, nat_tests)) in
    record { line = sym (ap without_cr c.in-Some.ensures.cases.0 ∙ line_of-push c.in-Some.front.now c.in-Some.last.now ∙ ap (λ b. cond b c.in-Some.front.now (c.in-Some.front.now ++ c.in-Some.last.now ∷ [])) t ∙ sym c.in-Some.ensures.cases.0) }
