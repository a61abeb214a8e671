use Rattle.std.proofs.Common.{length, sym, ◌∙◌, ap, eqb-true, eq-eqb}
use Rattle.bits.proofs.Lengths.{length-bits_of}
use Rattle.wires.proofs.Pieces.{none_left}
use Rattle.wires.proofs.piece.Piece.is_empty.Goals as goal

pub returns : goal.returns
returns c = (
  λ t. sym c.self.view_is ∙ none_left c.self.inside.count c.self.inside.bits (eqb-true c.self.inside.count 0 t),
  λ e. eq-eqb c.self.inside.count 0 (sym (length-bits_of c.self.inside.count c.self.inside.bits) ∙ ap length (c.self.view_is ∙ e)),
)
