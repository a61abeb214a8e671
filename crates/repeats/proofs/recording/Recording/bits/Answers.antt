use Rattle.std.proofs.Common.{◌++◌, [], List, ap, append-nil, ◌∙◌}
use Rattle.bits.specs.Bits.{bits_of}
use Rattle.repeats.specs.Recordings.{twice_bits}
use Rattle.repeats.proofs.recording.Recording.bits.Goals as goal

pub returns : goal.returns
unfolding bits_of
returns c = ap twice_bits (ap (λ (ws : List _). Rattle.std.proofs.Common.take c.self.inside.count ws) c.deref.ensures.value ∙ c.self.view_is)
