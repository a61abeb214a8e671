use Rattle.std.proofs.Common.{arith, rules, []}
use Rattle.std.proofs.lemmas.Str.Pattern.{split_parts}
use Rattle.command_lines.proofs.ListedCapcodes.{alone_read, first_read, next_read, plus_parts-at, plus_parts-last, refuse_first, refuse_next, word_read}
use Rattle.command_lines.proofs.capcodes.capcodes_of.Goals as goal

pub returns-in_err-capcode_of : goal.returns-in_err-capcode_of
returns-in_err-capcode_of c =
    let none = rw c.in_default.is at (split_parts 43 c.args.word.now c.split_once.result c.split_once.ensures.cases (omega arith)) in
    rw (c.from_residual.ensures) (refuse_first c.args.word.now c.args.word.now [] (plus_parts-last c.args.word.now none) c.in_err-capcode_of.ensures)

pub returns-in_default : goal.returns-in_default
returns-in_default c =
    let none = rw c.in_default.is at (split_parts 43 c.args.word.now c.split_once.result c.split_once.ensures.cases (omega arith)) in
    rw (c.of.ensures) (alone_read c.args.word.now _ (plus_parts-last c.args.word.now none) c.in_ok-capcode_of.ensures)

pub returns-in_err-capcode_of-2 : goal.returns-in_err-capcode_of-2
returns-in_err-capcode_of-2 c =
    let cut = rw c.in-Some.is at (split_parts 43 c.args.word.now c.split_once.result c.split_once.ensures.cases (omega arith)) in
    rw (c.from_residual-in_err-capcode_of-2.ensures) (refuse_first c.args.word.now c.in-Some.first.now _ (plus_parts-at c.args.word.now c.in-Some.first.now c.in-Some.others.now cut.0 cut.1) c.in_err-capcode_of-2.ensures)

pub parts-init : goal.parts-init
parts-init c =
    let cut = rw c.in-Some.is at (split_parts 43 c.args.word.now c.split_once.result c.split_once.ensures.cases (omega arith)) in
    let parts = plus_parts-at c.args.word.now c.in-Some.first.now c.in-Some.others.now cut.0 cut.1 in
    (rw (c.of-capcodes.ensures) (first_read c.args.word.now c.in-Some.first.now c.in-Some.others.now _ parts c.in_ok-capcode_of-2.ensures), search rules)

pub returns-in_err-capcodes : goal.returns-in_err-capcodes
returns-in_err-capcodes c =
    let l = c.parts in
    let cut = rw c.in-Some-split_once.is at (split_parts 43 l.rest.now c.split_once-in-parts.result c.split_once-in-parts.ensures.cases (omega arith)) in
    rw (c.from_residual-in_err-capcodes.ensures)
    (refuse_next c.args.word.now l.rest.now c.in-Some-split_once.part.now _ l.capcodes l.invariant.0 (plus_parts-at l.rest.now c.in-Some-split_once.part.now c.in-Some-split_once.more.now cut.0 cut.1) c.in_err-capcodes.ensures)

pub parts-preserved : goal.parts-preserved
parts-preserved c =
    let l = c.parts in
    let cut = rw c.in-Some-split_once.is at (split_parts 43 l.rest.now c.split_once-in-parts.result c.split_once-in-parts.ensures.cases (omega arith)) in
    (next_read c.args.word.now l.rest.now c.in-Some-split_once.part.now c.in-Some-split_once.more.now l.capcodes _ l.invariant.0 (plus_parts-at l.rest.now c.in-Some-split_once.part.now c.in-Some-split_once.more.now cut.0 cut.1) c.in_ok-capcodes.ensures, search rules)

pub returns : goal.returns
returns c =
    let l = c.parts in
    let none = rw c.in_default-split_once.is at (split_parts 43 l.rest.now c.split_once-in-parts.result c.split_once-in-parts.ensures.cases (omega arith)) in
    word_read c.args.word.now l.rest.now l.capcodes _ l.invariant.0 (plus_parts-last l.rest.now none) c.with-2.ensures
