use Rattle.std.proofs.Common.{◌≡◌, [], sym, ◌∙◌}
use Rattle.wires.proofs.Pieces.{none_left, pops}
use Rattle.wires.proofs.piece.Piece.pop.Goals as goal

pub returns-then-self-eq0 : goal.returns-then-self-eq0
returns-then-self-eq0 c =
    let none : c.args.self.now ≡ [] = sym c.self.view_is ∙ none_left c.self.inside.count c.self.inside.bits c.if-self-eq0.true in
    (none, none)

pub returns : goal.returns
returns c = sym c.self.view_is ∙ pops c.self.inside.count c.self.inside.bits c.if-self-eq0.false
