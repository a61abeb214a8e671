use Rattle.std.proofs.Common.{refl, inr}
use Rattle.std.proofs.lemmas.Bool.{false≢true}
use Rattle.subscribers.proofs.Answered.{read_tree, no_tree}
use Rattle.subscribers.proofs.settings.tree_from.Goals as goal

pub returns-in-Ok-clause-tree : goal.returns-in-Ok-clause-tree
returns-in-Ok-clause-tree c = read_tree _ _ c.in-Ok.ensures.ok.0 c.in-Ok.ensures.ok.1

pub returns-else-is_memory-clause-refused : goal.returns-else-is_memory-clause-refused
returns-else-is_memory-clause-refused c = inr (refl, no_tree _ (c.in-Err.ensures.refused (λ m. false≢true (c.if-is_memory.ensures.1 m))))
