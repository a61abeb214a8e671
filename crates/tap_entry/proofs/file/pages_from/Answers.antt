use Rattle.std.proofs.Common.{◌≡◌, ◌≢◌, ◌+◌, ◌++◌, ◌∷◌, [], arith, sym, subst, ap, ◌∙◌, length, inr}
use Rattle.std.proofs.lemmas.List.{map_push, length-map}
use Rattle.tap_entry.specs.declared.faults.PagesFault.TheVariants.{Line}
use Rattle.tap_entry.specs.Seen.{seen_page, seen_pages}
use Rattle.tap_entry.specs.Signs.{PagesUpTo}
use Rattle.tap_entry.proofs.PageLines.{lines_more, no_line, not_empty, pushed}
use Rattle.tap_entry.proofs.file.pages_from.Goals as goal

pub returns-in_default-clause-refused : goal.returns-in_default-clause-refused
returns-in_default-clause-refused c = inr (record {
  pages = seen_pages c.loop-rest.pages.items;
  rest = c.loop-rest.rest.now;
  before = c.loop-rest.invariant;
  fault_is = (let l = length-map c.loop-rest.pages.items seen_page in let n : c.len.result ≡ length (seen_pages c.loop-rest.pages.items) = omega (arith, l) in ap (λ n. Line (n + 2)) n);
  some = λ e. not_empty c.loop-rest.rest.now (sym c.is_empty.ensures ∙ c.loop-rest-test.true) e;
  wrong = inr (no_line c.loop-rest.rest.now c.in_default.ensures);
})

pub loop-rest-preserved : goal.loop-rest-preserved
loop-rest-preserved c =
    let items : c.push.new.self.items ≡ c.loop-rest.pages.items ++ c.in-Some.page ∷ [] = pushed _ _ _ _ c.if-is_err.ensures.negation c.push.ensures.items in
    let n : length (seen_pages c.loop-rest.pages.items) ≢ 1000 = (let a = length-map c.loop-rest.pages.items seen_page in omega (arith, a)) in
    subst (λ z. PagesUpTo c.args.x.now z c.in-Some.behind.now) (sym (ap seen_pages items ∙ map_push seen_page c.loop-rest.pages.items c.in-Some.page))
    (lines_more c.args.x.now (seen_pages c.loop-rest.pages.items) c.loop-rest.rest.now (seen_page c.in-Some.page) c.in-Some.behind.now c.loop-rest.invariant c.in-Some.ensures n)
