use Rattle.std.proofs.Common.{[], suc, take, drop, sym, ◌∙◌}
use Rattle.tap_block.specs.Chars.{characters}
use Rattle.tap_block.specs.Reading.{AfterLogon}
use Rattle.one_block.proofs.LoneBlocks.{breaks, characters-at}
use Rattle.one_block.proofs.one_page.is_silent.Goals as goal

pub returns-then-is_some-clause-broken : goal.returns-then-is_some-clause-broken
returns-then-is_some-clause-broken c f stands =
    let i = c.loop-c.c-index in
    let chars = c.args.chars.now in
    breaks c.feed.new.self (characters (take i chars)) (characters chars) (characters (drop (suc i) chars)) c.args.scanner.now.password _ c.feed.result
    (c.feed.ensures.reads AfterLogon (characters (take i chars)) [] (c.loop-c.invariant.silent stands))
    (sym c.is_some.ensures ∙ c.if-is_some.true) (characters-at chars i c.loop-c-test.true) (c.feed.ensures.password ∙ c.loop-c.invariant.password)
