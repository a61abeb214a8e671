use Rattle.std.proofs.Common.{drop, ap, ◌∙◌}
use Rattle.wires.proofs.Pieces.{within, takes_last}
use Rattle.wires.proofs.piece.Piece.skip.Goals as goal

pub overflow_sub-self : goal.overflow_sub-self
overflow_sub-self c = within _ _ _ _ c.self.view_is c.requires

pub returns : goal.returns
returns c =
    takes_last c.args.n c.self.inside.count c.self.inside.bits (within _ _ _ _ c.self.view_is c.requires) ∙ ap (drop c.args.n) c.self.view_is
