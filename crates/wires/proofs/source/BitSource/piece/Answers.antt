use Rattle.std.proofs.Common.{ap, ◌∙◌, ℕ}
use Rattle.bits.specs.Bits.{bits_of}
use Rattle.wires.proofs.Ahead.{piece_of_one, piece_of_none}
use Rattle.wires.proofs.source.BitSource.piece.Goals as goal

pub returns-in-Some : goal.returns-in-Some
returns-in-Some g c =
    piece_of_one c.args.most _ _ c.in_ok-bit.field-0 c.in-Some.bit c.of.result c.in-Some.is (c.of.ensures ∙ ap (λ (w : ℕ). bits_of 1 w) c.from.ensures) c.requires c.in_ok-bit.ensures

pub returns-in-None : goal.returns-in-None
returns-in-None g c = piece_of_none c.args.most _ _ c.in_ok-bit.field-0 c.of-in-None.result c.in-None.is c.of-in-None.ensures c.in_ok-bit.ensures
