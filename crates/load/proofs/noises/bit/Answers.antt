use Rattle.load.proofs.Flipped.{one_bit}
use Rattle.load.proofs.noises.bit.Goals as goal

pub returns : goal.returns
returns c = one_bit c.args.place c.requires
