use Rattle.std.proofs.Common.{sym, ◌∙◌}
use Rattle.repeats.proofs.Recorded.{both_taken, begun}
use Rattle.repeats.proofs.recording.RecordingBits.begin.Goals as goal

pub returns-then-self-clause-ended : goal.returns-then-self-clause-ended
returns-then-self-clause-ended c =
    let new = c.turn.new.self in
    λ none. sym c.turn.ensures.same
    ∙ both_taken new.pending new.word new.at new.words.now new.is_second (c.turn.ensures.second c.if-self.true) (c.turn.ensures.pending ∙ c.if-self-ne0.false) c.if-self.true

pub returns-clause-same : goal.returns-clause-same
returns-clause-same c =
    let new = c.turn.new.self in
    begun new.pending new.word new.at new.words.now new.is_second (c.turn.ensures.pending ∙ c.if-self-ne0.false) c.if-self.false ∙ c.turn.ensures.same
