use Rattle.std.proofs.Common.{arith}
use Rattle.repeats.specs.Recordings.{copies_left}
use Rattle.repeats.proofs.Recorded.{nothing_left, next_bits, takes_piece}
use Rattle.repeats.proofs.recording.RecordingBitsBitSource.piece.Goals as goal

pub returns-then-not-begin : goal.returns-then-not-begin
returns-then-not-begin c =
    let old = c.args.self.now in
    let new = c.begin.new.self in
    let e = nothing_left c.of.result (copies_left old.pending old.word old.words.now old.at old.is_second) (copies_left new.pending new.word new.words.now new.at new.is_second) c.of.ensures c.begin.ensures.same
    (c.begin.ensures.ended c.if-not-begin.true) in
    takes_piece c.args.most _ _ c.of.result (omega (arith, e.0)) e.1 e.2

pub returns : goal.returns
returns c =
    let new = c.begin.new.self in
    let some = c.begin.ensures.begun c.if-not-begin.false in
    let m = c.requires in
    let e = next_bits new.pending new.word c.min-count.result _ c.of-2.result _
    (omega (arith, c.min-count.ensures, some, m)) (omega (arith, c.min-count.ensures)) c.of-2.ensures c.begin.ensures.same in
    takes_piece c.args.most _ _ c.of-2.result (omega (arith, e.0, c.min-count.ensures)) e.1 e.2
