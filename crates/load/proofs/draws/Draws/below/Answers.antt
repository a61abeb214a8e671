use Rattle.std.proofs.Common.{◌%◌, ap, ◌∙◌}
use Rattle.load.proofs.Generator.{draw-at, generator_at-more}
use Rattle.load.proofs.draws.Draws.below.Goals as goal

pub returns-clause-value : goal.returns-clause-value
returns-clause-value c = λ seed k at. ap (λ x. x % c.args.n) (ap (λ p. p.0) c.next_word.ensures ∙ draw-at seed k c.args.self.now.generator at)

pub returns-clause-further : goal.returns-clause-further
returns-clause-further c = λ seed k at. ap (λ p. p.1) c.next_word.ensures ∙ generator_at-more seed k c.args.self.now.generator at
