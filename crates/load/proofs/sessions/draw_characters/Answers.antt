use Rattle.std.proofs.Common.{◌≡◌, ◌+◌, ◌++◌, append-nil, subst, arith, ap, sym, ◌∙◌}
use Rattle.std.specs.List.{AllByRecursion}
use Rattle.tap_block.specs.Chars.{IsChar}
use Rattle.load.specs.Draws.{draw, generator_at}
use Rattle.load.specs.Generated.{drawn_characters, drawn_length}
use Rattle.load.proofs.Drawn.{characters-more, chars-more}
use Rattle.load.proofs.sessions.draw_characters.Goals as goal

pub loop-init : goal.loop-init
loop-init c = record {
  size = omega arith;
  ascii = λ h. h;
  characters = λ seed k at. sym (append-nil c.args.body.now.items);
  further = λ seed k at. at ∙ ap (generator_at seed) (omega arith);
}

pub push-requires : goal.push-requires
push-requires c = (omega arith, omega (arith, c.loop.invariant.size, c.requires.room, c.below-length.ensures.below))

pub loop-preserved : goal.loop-preserved
loop-preserved c = record {
  size = omega (arith, c.push.ensures.len, c.loop.invariant.size);
  ascii = λ h. subst (AllByRecursion IsChar) (sym c.push.ensures.items) (chars-more c.loop.body.items (c.args.first + c.below.result) (c.loop.invariant.ascii h) (omega (arith, c.below.ensures.below, c.requires.letters)));
  characters = λ seed k at. characters-more (draw seed) k c.args.first c.args.kinds c.loop.counter c.below.result c.args.body.now.items c.push.new.line.items c.loop.body.items
      c.push.ensures.items (c.below.ensures.value seed (k + c.loop.counter) (c.loop.invariant.further seed k at)) (c.loop.invariant.characters seed k at);
  further = λ seed k at. c.below.ensures.further seed (k + c.loop.counter) (c.loop.invariant.further seed k at) ∙ ap (generator_at seed) (omega arith);
}

pub returns-clause-characters : goal.returns-clause-characters
returns-clause-characters c = λ seed k at.
    let whole : c.loop.counter ≡ 1 + c.below-length.result = omega arith in
    c.loop.invariant.characters seed (k + 1) (c.below-length.ensures.further seed k at)
    ∙ ap (λ n. c.args.body.now.items ++ drawn_characters (draw seed) (k + 1) c.args.first c.args.kinds n) (whole ∙ ap (λ x. 1 + x) (c.below-length.ensures.value seed k at))

pub returns-clause-ascii : goal.returns-clause-ascii
returns-clause-ascii c = c.loop.invariant.ascii

pub returns-clause-further : goal.returns-clause-further
returns-clause-further c = λ seed k at.
    let whole : c.loop.counter ≡ 1 + c.below-length.result = omega arith in
    let length : c.loop.counter ≡ drawn_length (draw seed) k c.args.longest = whole ∙ ap (λ x. 1 + x) (c.below-length.ensures.value seed k at) in
    c.loop.invariant.further seed (k + 1) (c.below-length.ensures.further seed k at)
    ∙ ap (λ n. generator_at seed (k + 1 + n)) length ∙ ap (generator_at seed) (omega arith)

pub returns-clause-few : goal.returns-clause-few
returns-clause-few c = omega (arith, c.loop.invariant.size, c.below-length.ensures.below)
