use Rattle.wires.proofs.Ahead.{source_fill}
use Rattle.wires.proofs.byte_bits.ByteBits.fill.Goals as goal

pub returns : goal.returns
returns g c = rw c.of-self.ensures (source_fill c.args.self.now.ready c.in_ok-n.n _ _ c.take.new.into c.requires c.in_ok-n.ensures)
