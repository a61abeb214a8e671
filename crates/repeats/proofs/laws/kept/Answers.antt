use Rattle.repeats.proofs.Kept.{kept_frames, kept_same}
use Rattle.repeats.proofs.laws.kept.Goals as goal

pub returns-clause-frames : goal.returns-clause-frames
returns-clause-frames c = kept_frames

pub returns-clause-one : goal.returns-clause-one
returns-clause-one c = kept_same
