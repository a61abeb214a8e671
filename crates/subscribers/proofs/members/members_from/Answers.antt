use Rattle.std.proofs.Common.{◌≡◌, ◌==◌, true, false, pos, Some, get_or, SFits, w64, sym, ap, rules, ◌∙◌, ⊎_elim}
use Rattle.std.proofs.lemmas.Int.{to_z-of_z}
use Rattle.std.proofs.lemmas.List.{take_all}
use Rattle.std.specs.List.{list_any}
use Rattle.subscribers.specs.Entries.{all_differ, capcodes_of}
use Rattle.subscribers.proofs.Grouped.{too_few, too_many, enough, among_these, members_of-none, members_of-unusable, members_of-twice, capcodes_of-more, all_differ-push, members_of-all}
use Rattle.subscribers.proofs.members.members_from.Goals as goal

pub returns-then-is_empty : goal.returns-then-is_empty
returns-then-is_empty c =
    sym (members_of-none c.args.numbers.now (⊎_elim (λ e. too_few _ (sym c.is_empty.ensures ∙ e)) (λ e. too_many _ e.1) c.then-is_empty.either))

pub returns-in_default : goal.returns-in_default
returns-in_default c =
    let number = get_or c.args.numbers.now c.loop-number.number-index (pos 0) in
    let fits : SFits w64 number = search rules in
    sym (members_of-unusable c.args.numbers.now c.loop-number.number-index (pos 0) c.loop-number.members.items c.loop-number-test.true c.loop-number.invariant.so_far
    (sym (rw (to_z-of_z w64 number fits) at c.in_default.ensures)))

pub returns-then-contains : goal.returns-then-contains
returns-then-contains c =
    let number = get_or c.args.numbers.now c.loop-number.number-index (pos 0) in
    let capcode = c.in-Some.capcode in
    let fits : SFits w64 number = search rules in
    let found : true ≡ list_any (λ x. x == capcode) c.deref.result.now = c.if-contains.ensures.value in
    sym (members_of-twice c.args.numbers.now c.loop-number.number-index (pos 0) c.loop-number.members.items c.loop-number-test.true c.loop-number.invariant.so_far capcode
    (sym (rw (to_z-of_z w64 number fits) at c.in-Some.ensures))
    (sym (among_these capcode c.loop-number.members.items) ∙ ap (list_any (λ x. x == capcode)) (sym c.deref.ensures.value) ∙ sym found))

pub loop-number-preserved : goal.loop-number-preserved
loop-number-preserved c =
    let number = get_or c.args.numbers.now c.loop-number.number-index (pos 0) in
    let capcode = c.in-Some.capcode in
    let fits : SFits w64 number = search rules in
    let found : false ≡ list_any (λ x. x == capcode) c.deref.result.now = c.if-contains.ensures.value in
    record {
      so_far = capcodes_of-more c.args.numbers.now c.loop-number.number-index (pos 0) c.loop-number.members.items c.loop-number-test.true c.loop-number.invariant.so_far capcode
          (sym (rw (to_z-of_z w64 number fits) at c.in-Some.ensures)) ∙ ap Some (sym c.in_ok-push.ensures.items);
      differ = ap all_differ c.in_ok-push.ensures.items ∙ all_differ-push capcode c.loop-number.members.items c.loop-number.invariant.differ
          (sym (among_these capcode c.loop-number.members.items) ∙ ap (list_any (λ x. x == capcode)) (sym c.deref.ensures.value) ∙ sym found);
    }

pub returns : goal.returns
returns c =
    sym (members_of-all c.args.numbers.now c.loop-number.members.items (enough _ (sym c.is_empty.ensures ∙ c.if-is_empty.false) c.if-numbers-gt-MOST_MEMBERS.false)
    (ap capcodes_of (sym (take_all c.loop-number.number-index c.args.numbers.now c.loop-number-test.false)) ∙ c.loop-number.invariant.so_far) c.loop-number.invariant.differ)
