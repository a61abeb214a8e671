use Rattle.std.proofs.Common.{◌≡◌, ◌+◌, ◌∷◌, [], ◌++◌, ◌<◌, List, append_assoc, drop, drop-cons, length, length-append, suc, sym, ◌∙◌, ap, arith}
use Rattle.std.proofs.lemmas.Grind.{common_steps}
use Rattle.tap_entry.specs.Client.{PageToSend, all_are}
use Rattle.tap_entry.specs.PagesFile.{no_page}
use Rattle.calling.proofs.outcome_lines.fill.Goals as goal

pub loop-preserved : goal.loop-preserved
loop-preserved c =
    let i = c.loop.invariant in
    let few = c.count-end.ensures.most in
    let lt : c.loop.counter < length c.args.pages.now.pages = grind (arith, common_steps, c.loop-test.true, c.count-end.ensures.value) in
    let n = c.note.ensures (omega (arith, i.many, lt, few, c.count-end.ensures.value)) in
    let d = drop-cons c.args.pages.now.pages c.loop.counter no_page lt in
    record {
      all = i.all ∙ (ap (λ (z : List PageToSend). c.loop.done.items ++ all_are c.args.outcome z) d
          ∙ (sym (append_assoc c.loop.done.items (c.args.outcome ∷ []) (all_are c.args.outcome (drop (suc c.loop.counter) c.args.pages.now.pages)))
          ∙ (ap (λ (z : List _). z ++ all_are c.args.outcome (drop (suc c.loop.counter) c.args.pages.now.pages)) (sym n)
          ∙ ap (λ k. c.note.new.done.items ++ all_are c.args.outcome (drop k c.args.pages.now.pages)) (let e : suc c.loop.counter ≡ c.loop.counter + 1 = omega arith in e))));
      many = ap length n ∙ (let l = length-append c.loop.done.items (c.args.outcome ∷ []) in omega (arith, l, i.many));
    }
