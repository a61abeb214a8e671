use Rattle.std.proofs.Common.{ℕ, List, drop, subst, drop-cons, add-one, ◌<◌, length, ◌∙◌, suc, refl}
use Rattle.serving.specs.Answering.{Answering}
use Rattle.serving.proofs.Answered.{course_ends, course_goes}
use Rattle.serving.proofs.session.Station.answer_all.Goals as goal

pub returns-in-Ok-Ended-clause-settings : goal.returns-in-Ok-Ended-clause-settings
returns-in-Ok-Ended-clause-settings g c = c.answer.ensures.settings ∙ c.loop-byte.invariant.settings

pub returns-in-Ok-Ended-clause-on : goal.returns-in-Ok-Ended-clause-on
returns-in-Ok-Ended-clause-on g c = λ spare first now before out0 taken u.
    let lt : c.loop-byte.byte-index < length c.args.bytes.now = c.loop-byte-test.true in
    let v = c.loop-byte.invariant.on spare first now before out0 taken u in
    let w = subst (λ (z : List ℕ). Answering c.loop-byte.self.settings spare first now before c.loop-byte.self.pool c.loop-byte.self.desk out0 (g.O.Sink.state c.loop-byte.out) taken z) (drop-cons c.args.bytes.now c.loop-byte.byte-index 0 lt) v in
    course_ends _ _ spare first now before _ _ out0 _ taken _ c.in-Ok-Ended.field-0 c.in-Ok-Ended.field-0-is refl (c.in-Ok-Ended.ensures.on spare first now before out0 taken (drop (suc c.loop-byte.byte-index) c.args.bytes.now) w)

pub returns-in-Err-clause-on : goal.returns-in-Err-clause-on
returns-in-Err-clause-on g c = λ spare first now before out0 taken u.
    let lt : c.loop-byte.byte-index < length c.args.bytes.now = c.loop-byte-test.true in
    let v = c.loop-byte.invariant.on spare first now before out0 taken u in
    let w = subst (λ (z : List ℕ). Answering c.loop-byte.self.settings spare first now before c.loop-byte.self.pool c.loop-byte.self.desk out0 (g.O.Sink.state c.loop-byte.out) taken z) (drop-cons c.args.bytes.now c.loop-byte.byte-index 0 lt) v in
    c.in-Err.ensures.on spare first now before out0 taken (drop (suc c.loop-byte.byte-index) c.args.bytes.now) w

pub loop-byte-preserved : goal.loop-byte-preserved
loop-byte-preserved g c = record {
  settings = c.answer.ensures.settings ∙ c.loop-byte.invariant.settings;
  cells_stay = c.answer.ensures.cells_stay ∙ c.loop-byte.invariant.cells_stay;
  on = λ spare first now before out0 taken u.
      let lt : c.loop-byte.byte-index < length c.args.bytes.now = c.loop-byte-test.true in
      let v = c.loop-byte.invariant.on spare first now before out0 taken u in
      let w = subst (λ (z : List ℕ). Answering c.loop-byte.self.settings spare first now before c.loop-byte.self.pool c.loop-byte.self.desk out0 (g.O.Sink.state c.loop-byte.out) taken z) (drop-cons c.args.bytes.now c.loop-byte.byte-index 0 lt) v in
      rw add-one (course_goes _ _ spare first now before _ _ out0 _ taken _ c.in-Ok-GoesOn.field-0 c.in-Ok-GoesOn.field-0-is refl (c.in-Ok-GoesOn.ensures.on spare first now before out0 taken (drop (suc c.loop-byte.byte-index) c.args.bytes.now) w));
}
