-- The bits of a recording, as their reader's caller sees them.
use Rattle.std.specs.Prelude.{Bool, List}
use Rattle.repeats.specs.Recordings.{copies_left}
use Rattle.repeats.specs.declared.recording.RecordingBits.{RecordingBits}

-- the bits that are still to come
abbrev pub recorded_left : RecordingBits → List Bool
recorded_left s = copies_left s.pending s.word s.words.now s.at s.is_second
