use Rattle.std.proofs.Common.{◌+◌, ◌-◌, ◌*◌}
use Rattle.load.specs.Draws.{draw}
use Rattle.load.specs.Noises.{is_flipped, is_flipped_more, is_slot_word, word_of_test}
use Rattle.load.proofs.WordNoises.{clear_word}
use Rattle.load.proofs.running.flips_at.Goals as goal

pub returns-then-number-lt-PREAMBLE-clause-first : goal.returns-then-number-lt-PREAMBLE-clause-first
returns-then-number-lt-PREAMBLE-clause-first c = λ seed k at.
    clear_word c.args.number (word_of_test (is_flipped (draw seed) (k + 3 * (c.args.number - 18)))) c.if-number-lt-PREAMBLE.true

pub returns-then-number-lt-PREAMBLE-clause-second : goal.returns-then-number-lt-PREAMBLE-clause-second
returns-then-number-lt-PREAMBLE-clause-second c = λ seed k at.
    clear_word c.args.number (word_of_test (is_flipped_more (draw seed) (k + 3 * (c.args.number - 18)) (is_slot_word (c.args.number - 18)))) c.if-number-lt-PREAMBLE.true
