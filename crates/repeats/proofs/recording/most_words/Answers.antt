use Rattle.std.proofs.Common.{refl}
use Rattle.repeats.specs.Recordings.{recorded_words}
use Rattle.repeats.proofs.recording.most_words.Goals as goal

pub returns : goal.returns
unfolding recorded_words
returns c = refl
