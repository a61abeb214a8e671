use Rattle.std.proofs.Common.{◌≡◌, [], ℕ, List, sym, ◌∙◌, length, subst, Option, Some, true, false}
use Rattle.std.proofs.lemmas.Slice.Eq.{bytes_eq-Decides}
use Rattle.tap_block.specs.Brief.{ReadsOn}
use Rattle.tap_block.specs.declared.items.Item.{Item}
use Rattle.entry_line.specs.Chars.{char_of}
use Rattle.tap_block.specs.Chars.{characters}
use Rattle.tap_block.specs.Reading.{AfterLogon}
use Rattle.one_block.proofs.LoneBlocks.{block_answer, fed_before, last_answers, lone_form, makes_block, same_between, size_is, stays_silent, kept_body}
use Rattle.one_block.specs.Silent.{BreaksSilence}
use Rattle.one_block.proofs.one_page.lone_block.Goals as goal

pub returns-then-not-is_silent : goal.returns-then-not-is_silent
returns-then-not-is_silent c body trailer l =
    let fed = fed_before c.args.chars.now c.in-Some.before.now c.in-Some.last.now c.requires c.in-Some.ensures.cases.0 in
    let breaks = c.is_silent.ensures.broken c.if-not-is_silent.true c.blocks-scanner.ensures.stands in
    let none = subst (λ (w : Option (List ℕ)). BreaksSilence w (characters c.in-Some.before.now)) c.blocks-scanner.ensures.password breaks in
    stays_silent (characters c.in-Some.before.now) c.args.chars.now body trailer _ fed none l

pub returns-in_default-feed : goal.returns-in_default-feed
returns-in_default-feed c body trailer l =
    let fed = fed_before c.args.chars.now c.in-Some.before.now c.in-Some.last.now c.requires c.in-Some.ensures.cases.0 in
    let stands = c.is_silent.ensures.silent c.if-not-is_silent.false c.blocks-scanner.ensures.stands in
    last_answers c.feed.new.self (characters c.in-Some.before.now) c.args.chars.now body trailer _ (c.feed.ensures.password ∙ (c.is_silent.ensures.password ∙ c.blocks-scanner.ensures.password)) fed
    (c.in_default-feed.ensures.reads AfterLogon (characters c.in-Some.before.now) [] stands) l

pub returns-in_default-short_block : goal.returns-in_default-short_block
returns-in_default-short_block c body trailer l =
    let fed = fed_before c.args.chars.now c.in-Some.before.now c.in-Some.last.now c.requires c.in-Some.ensures.cases.0 in
    let stands = c.is_silent.ensures.silent c.if-not-is_silent.false c.blocks-scanner.ensures.stands in
    let answer = block_answer c.feed.new.self (characters c.in-Some.before.now) c.args.chars.now body trailer _ c.in-Some-feed.item
    (c.feed.ensures.password ∙ (c.is_silent.ensures.password ∙ c.blocks-scanner.ensures.password)) fed (c.in-Some-feed.ensures.reads AfterLogon (characters c.in-Some.before.now) [] stands) l in
    c.in_default-short_block.ensures (length body) _ l.short answer

pub returns-in_default-between : goal.returns-in_default-between
returns-in_default-between c body trailer l =
    let fed = fed_before c.args.chars.now c.in-Some.before.now c.in-Some.last.now c.requires c.in-Some.ensures.cases.0 in
    let stands = c.is_silent.ensures.silent c.if-not-is_silent.false c.blocks-scanner.ensures.stands in
    let answer = block_answer c.feed.new.self (characters c.in-Some.before.now) c.args.chars.now body trailer _ c.in-Some-feed.item
    (c.feed.ensures.password ∙ (c.is_silent.ensures.password ∙ c.blocks-scanner.ensures.password)) fed (c.in-Some-feed.ensures.reads AfterLogon (characters c.in-Some.before.now) [] stands) l in
    let same = size_is _ _ _ _ (sym answer ∙ c.in-Some-short_block.ensures.0) in
    c.in_default-between.ensures body trailer (lone_form c.args.chars.now body trailer l).0 same.1

pub returns-then-eq : goal.returns-then-eq
returns-then-eq c =
    let fed = fed_before c.args.chars.now c.in-Some.before.now c.in-Some.last.now c.requires c.in-Some.ensures.cases.0 in
    let stands = c.is_silent.ensures.silent c.if-not-is_silent.false c.blocks-scanner.ensures.stands in
    let passwords = c.is_silent.ensures.password ∙ c.blocks-scanner.ensures.password in
    let reads = subst (λ (i : Item). ReadsOn AfterLogon c.feed.new.self (characters c.in-Some.before.now) [] (char_of c.in-Some.last.now) (Some i)) c.in-Some-short_block.ensures.0
    (c.in-Some-feed.ensures.reads AfterLogon (characters c.in-Some.before.now) [] stands) in
    makes_block c.is_silent.new.scanner c.feed.new.self (characters c.in-Some.before.now) c.args.chars.now c.in-Some-between.body.now c.in-Some-between.ensures.0 _
    c.in-Some-short_block.right c.in-Some-short_block.size passwords (c.feed.ensures.password ∙ passwords) fed stands reads c.in-Some-short_block.ensures.1 c.in-Some-between.ensures.1
    ((bytes_eq-Decides c.in-Some-between.body.now c.body.result.now).0 (sym c.eq.ensures ∙ c.if-eq.true) ∙ c.body.ensures.value)

pub returns-else-eq : goal.returns-else-eq
returns-else-eq c body trailer l =
    let fed = fed_before c.args.chars.now c.in-Some.before.now c.in-Some.last.now c.requires c.in-Some.ensures.cases.0 in
    let stands = c.is_silent.ensures.silent c.if-not-is_silent.false c.blocks-scanner.ensures.stands in
    let passwords = c.feed.ensures.password ∙ (c.is_silent.ensures.password ∙ c.blocks-scanner.ensures.password) in
    let reads = c.in-Some-feed.ensures.reads AfterLogon (characters c.in-Some.before.now) [] stands in
    let answer = block_answer c.feed.new.self (characters c.in-Some.before.now) c.args.chars.now body trailer _ c.in-Some-feed.item passwords fed reads l in
    let kept = kept_body c.feed.new.self (characters c.in-Some.before.now) c.args.chars.now body trailer _ c.in-Some-feed.item passwords fed reads l in
    let sizes = size_is _ _ _ _ (sym c.in-Some-short_block.ensures.0 ∙ answer) in
    let same = same_between c.in-Some-between.body.now body c.in-Some-between.ensures.0 trailer (sym c.in-Some-between.ensures.1 ∙ (lone_form c.args.chars.now body trailer l).0) (c.in-Some-between.ensures.2 ∙ sizes.1) in
    let test = (bytes_eq-Decides c.in-Some-between.body.now c.body.result.now).1 (same ∙ sym (c.body.ensures.value ∙ kept)) in
    let no : false ≡ true = sym c.if-eq.false ∙ (c.eq.ensures ∙ test) in
    cc
