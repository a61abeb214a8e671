use Rattle.std.proofs.Common.{rules}
use Rattle.std.proofs.lemmas.Bool.{both_ways}
use Rattle.wires.proofs.Ahead.{shelf_piece}
use Rattle.wires.proofs.byte_bits.ShelfBitsBitSource.piece.Goals as goal

pub returns-then-not-is_empty : goal.returns-then-not-is_empty
returns-then-not-is_empty g c =
    shelf_piece c.args.most _ _ _ c.args.self.now.ready c.piece-piece.result c.piece-piece.new.self _ c.piece-piece.ensures.pops c.piece-piece.ensures.few
    (λ e. both_ways c.is_empty.result (search rules) (c.is_empty.ensures.1 e))
