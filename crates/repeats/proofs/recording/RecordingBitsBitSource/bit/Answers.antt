use Rattle.std.proofs.Common.{arith, sym, ◌∙◌}
use Rattle.wires.proofs.Ahead.{goes_on}
use Rattle.repeats.proofs.Recorded.{takes_bit}
use Rattle.repeats.proofs.recording.RecordingBitsBitSource.bit.Goals as goal

pub returns : goal.returns
returns c =
    let new = c.begin.new.self in
    let some = c.begin.ensures.begun c.if-not-begin.false in
    takes_bit _ _ _ (sym c.begin.ensures.same ∙ goes_on new.pending new.word _ (λ z. omega (arith, some, z)))
