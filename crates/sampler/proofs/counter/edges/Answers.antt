use Rattle.sampler.proofs.Edges.{edges_of}
use Rattle.sampler.proofs.counter.edges.Goals as goal

pub returns-clause-edges : goal.returns-clause-edges
returns-clause-edges c = edges_of c.args.last c.args.n c.args.samples c.from.result c.requires.few c.requires.small c.from.ensures
