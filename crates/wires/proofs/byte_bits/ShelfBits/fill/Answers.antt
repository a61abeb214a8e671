use Rattle.wires.proofs.Ahead.{shelf_fill, shelf_fill-fails}
use Rattle.wires.proofs.byte_bits.ShelfBits.fill.Goals as goal

pub returns-in_err-n : goal.returns-in_err-n
returns-in_err-n g c = shelf_fill-fails _ _ _ c.args.self.now.from _ _ _ _ _ c.from_residual.ensures.0 c.in_err-n.ensures

pub returns : goal.returns
returns g c =
    rw (c.of-self.ensures, c.saturating_add-self.ensures)
    (shelf_fill c.args.self.now.shelf.ghost_name c.args.self.now.name.now c.args.self.now.ready c.args.self.now.from c.in_ok-n.n _ _ c.read.new.into c.requires c.in_ok-n.ensures)
