use Rattle.repeats.proofs.Recorded.{turned}
use Rattle.repeats.proofs.recording.RecordingBits.turn.Goals as goal

pub returns-clause-same : goal.returns-clause-same
returns-clause-same c =
    let old = c.args.self.now in
    turned old.pending old.word old.at old.words.now old.is_second c.if-self.false c.if-self-2.false
