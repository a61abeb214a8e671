use Rattle.std.proofs.Common.{◌≡◌, [], ◌++◌, arith, subst, ap, sym, ◌∙◌}
use Rattle.tap_block.specs.Chars.{characters}
use Rattle.load.specs.Draws.{draw, generator_at}
use Rattle.load.specs.Feeding.{IsFed}
use Rattle.load.specs.Generated.{drawn_blocks, logging_on, page_begins}
use Rattle.load.proofs.Drawn.{page_begins-more, page_begins-none}
use Rattle.load.proofs.Fed.{blocks-more, no_blocks, whole-session}
use Rattle.load.proofs.sessions.feed_session.Goals as goal

pub loop-init : goal.loop-init
loop-init c = record {
  further = λ seed at. at ∙ ap (generator_at seed) (sym (page_begins-none (draw seed)));
  fed = λ seed spare at fed. subst (IsFed c.args.settings.now spare c.feed.new.terminal c.feed.new.pool) (no_blocks (draw seed)) (c.feed.ensures spare [] fed);
}

pub loop-preserved : goal.loop-preserved
loop-preserved c = record {
  further = λ seed at.
      let k = page_begins (draw seed) c.loop.counter in
      c.draw_body-body.ensures.further seed k (c.loop.invariant.further seed at) ∙ ap (generator_at seed) (page_begins-more (draw seed) c.loop.counter);
  fed = λ seed spare at fed.
      let k = page_begins (draw seed) c.loop.counter in
      let before = characters (logging_on ++ drawn_blocks (draw seed) c.loop.counter) in
      let more = c.as_slice-in-loop.ensures.value ∙ c.block.ensures in
      subst (IsFed c.args.settings.now spare c.feed-in-loop.new.terminal c.feed-in-loop.new.pool)
      (ap (λ b. before ++ characters b) more
      ∙ blocks-more (draw seed) c.loop.counter c.as_slice.result.now (c.as_slice.ensures.value ∙ c.draw_body-body.ensures.body seed k (c.loop.invariant.further seed at)))
      (c.feed-in-loop.ensures spare before (c.loop.invariant.fed seed spare at fed));
}

pub returns-clause-fed : goal.returns-clause-fed
returns-clause-fed c = λ seed spare at fed.
    let whole : c.loop.counter ≡ c.args.count = omega arith in
    let before = characters (logging_on ++ drawn_blocks (draw seed) c.args.count) in
    let so_far = subst (λ n. IsFed c.args.settings.now spare c.loop.terminal c.loop.pool (characters (logging_on ++ drawn_blocks (draw seed) n))) whole (c.loop.invariant.fed seed spare at fed) in
    subst (IsFed c.args.settings.now spare c.feed-2.new.terminal c.feed-2.new.pool) (whole-session (draw seed) c.args.count) (c.feed-2.ensures spare before so_far)

pub returns-clause-further : goal.returns-clause-further
returns-clause-further c = λ seed at.
    let whole : c.loop.counter ≡ c.args.count = omega arith in
    c.loop.invariant.further seed at ∙ ap (λ n. generator_at seed (page_begins (draw seed) n)) whole
