use Rattle.std.proofs.Common.{◌≡◌, ℕ, ◌+◌, ◌%◌, arith, ap, ◌∙◌}
use Rattle.load.specs.Draws.{draw}
use Rattle.load.proofs.Flipped.{three_bits, two_bits}
use Rattle.load.proofs.noises.draw_flips.Goals as goal

pub returns-clause-first : goal.returns-clause-first
returns-clause-first c = λ seed k at.
    two_bits (draw seed) k c.below-a.result c.below.result c.bit.result c.bit-2.result (c.below-a.ensures.value seed k at) (c.below.ensures.value seed (k + 1) (c.below-a.ensures.further seed k at))
    c.bit.ensures c.bit-2.ensures

pub returns-clause-second : goal.returns-clause-second
returns-clause-second c = λ seed k at.
    let once = c.below-a.ensures.further seed k at in
    let twice = c.below.ensures.further seed (k + 1) once in
    let same : k + 1 + 1 ≡ k + 2 = omega arith in
    three_bits (draw seed) k c.args.is_slot c.below-a.result c.below.result c.below-c.result c.least_beside.result c.bit.result c.bit-2.result c.third.result
    (c.below-a.ensures.value seed k at) (c.below.ensures.value seed (k + 1) once) (c.below-c.ensures.value seed (k + 1 + 1) twice ∙ ap (λ (n : ℕ). draw seed n % 64) same)
    c.least_beside.ensures.value c.least_beside.ensures.not_first c.least_beside.ensures.not_second c.bit.ensures c.bit-2.ensures c.third.ensures
