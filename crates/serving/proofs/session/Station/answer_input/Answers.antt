use Rattle.std.proofs.Common.{[], ◌++◌, ◌∙◌, take, length-append, ap, subst, sym, arith}
use Rattle.std.proofs.lemmas.List.{length-take-le}
use Rattle.subscribers.specs.Parts.{Parts}
use Rattle.page_pool.specs.Pool.{cells}
use Rattle.serving.specs.Answering.{Answering, StoppedUnprinted}
use Rattle.serving.specs.StationState.{StationState}
use Rattle.serving.proofs.Answered.{answered_all, answered_broken, answered_to_end, begins, course_ends, course_goes, few_taken, takes_more}
use Rattle.serving.proofs.session.Station.answer_input.Goals as goal

pub loop-init : goal.loop-init
loop-init g c = record {
  settings = ap (λ (h : StationState). h.settings) c.self.view_is;
  cells_stay = ap (λ (h : StationState). cells h.pool) c.self.view_is;
  so_far = (
    [],
    subst (λ (h : StationState). Answering h.settings h.pool.spare (g.I.Source.state c.args.input.now) (g.I.Source.state c.args.input.now) h.pool c.self.inside.pool c.start.new.self
        (g.O.Sink.state c.args.out.now) (g.O.Sink.state c.args.out.now) [] []) c.self.view_is (begins _ _ c.self.inside.pool _ _ (c.start.ensures c.self.inside.pool.spare)),
    omega arith,
  );
}

pub returns-in-Ok-eq0-clause-answers : goal.returns-in-Ok-eq0-clause-answers
returns-in-Ok-eq0-clause-answers g c =
    let v = c.loop.invariant.so_far in
    answered_all _ _ _ _ _ _ _ _ _ _ _ _ _ (omega arith) v.1 c.in-Ok-eq0.ensures

pub returns-in-Ok-Ended-clause-answers : goal.returns-in-Ok-Ended-clause-answers
returns-in-Ok-Ended-clause-answers g c =
    let v = c.loop.invariant.so_far in
    let w = takes_more _ _ _ _ _ _ _ _ _ _ _ _ c.in-Ok.n v.1 c.in-Ok.ensures in
    let x = subst (λ (p : Parts). Answering p c.args.self.now.pool.spare (g.I.Source.state c.args.input.now) (g.I.Source.state c.take.new.self) c.args.self.now.pool c.loop.self.pool c.loop.self.desk
    (g.O.Sink.state c.args.out.now) (g.O.Sink.state c.loop.out) (v.0 ++ take c.in-Ok.n c.take.new.into) (take c.in-Ok.n c.take.new.into)) (sym c.loop.invariant.settings) w in
    let stay = c.answer_all.ensures.settings ∙ c.loop.invariant.settings in
    answered_to_end _ _ _ _ _ _ _ _ _ _
    (course_ends _ _ _ _ _ _ _ _ _ _ _ [] c.in-Ok-Ended.field-0 c.in-Ok-Ended.field-0-is stay (c.in-Ok-Ended.ensures.on c.args.self.now.pool.spare (g.I.Source.state c.args.input.now) (g.I.Source.state c.take.new.self) c.args.self.now.pool (g.O.Sink.state c.args.out.now) (v.0 ++ take c.in-Ok.n c.take.new.into) x))

pub returns-in-Err-answer_all-clause-answers : goal.returns-in-Err-answer_all-clause-answers
returns-in-Err-answer_all-clause-answers g c =
    let v = c.loop.invariant.so_far in
    let w = takes_more _ _ _ _ _ _ _ _ _ _ _ _ c.in-Ok.n v.1 c.in-Ok.ensures in
    let x = subst (λ (p : Parts). Answering p c.args.self.now.pool.spare (g.I.Source.state c.args.input.now) (g.I.Source.state c.take.new.self) c.args.self.now.pool c.loop.self.pool c.loop.self.desk
    (g.O.Sink.state c.args.out.now) (g.O.Sink.state c.loop.out) (v.0 ++ take c.in-Ok.n c.take.new.into) (take c.in-Ok.n c.take.new.into)) (sym c.loop.invariant.settings) w in
    let stay = c.answer_all.ensures.settings ∙ c.loop.invariant.settings in (
      v.0 ++ take c.in-Ok.n c.take.new.into,
      subst (λ (p : Parts). StoppedUnprinted p c.args.self.now.pool.spare (g.I.Source.state c.args.input.now) (g.I.Source.state c.take.new.self) c.args.self.now.pool c.answer_all.new.self.pool c.answer_all.new.self.desk (g.O.Sink.state c.args.out.now)
          (g.O.Sink.state c.answer_all.new.out) (v.0 ++ take c.in-Ok.n c.take.new.into)) stay (c.in-Err-answer_all.ensures.on c.args.self.now.pool.spare (g.I.Source.state c.args.input.now) (g.I.Source.state c.take.new.self) c.args.self.now.pool (g.O.Sink.state c.args.out.now) (v.0 ++ take c.in-Ok.n c.take.new.into) x),
    )

pub returns-in-Err-clause-answers : goal.returns-in-Err-clause-answers
returns-in-Err-clause-answers g c =
    let v = c.loop.invariant.so_far in
    answered_broken _ _ _ _ _ _ _ _ _ _ _ _ _ v.1 c.in-Err.ensures

pub loop-preserved : goal.loop-preserved
loop-preserved g c =
    let v = c.loop.invariant.so_far in
    let w = takes_more _ _ _ _ _ _ _ _ _ _ _ _ c.in-Ok.n v.1 c.in-Ok.ensures in
    let x = subst (λ (p : Parts). Answering p c.args.self.now.pool.spare (g.I.Source.state c.args.input.now) (g.I.Source.state c.take.new.self) c.args.self.now.pool c.loop.self.pool c.loop.self.desk
    (g.O.Sink.state c.args.out.now) (g.O.Sink.state c.loop.out) (v.0 ++ take c.in-Ok.n c.take.new.into) (take c.in-Ok.n c.take.new.into)) (sym c.loop.invariant.settings) w in
    let stay = c.answer_all.ensures.settings ∙ c.loop.invariant.settings in
    record {
      settings = stay;
      cells_stay = c.answer_all.ensures.cells_stay ∙ c.loop.invariant.cells_stay;
      so_far = (
        v.0 ++ take c.in-Ok.n c.take.new.into,
        course_goes _ _ _ _ _ _ _ _ _ _ _ [] c.in-Ok-GoesOn.field-0 c.in-Ok-GoesOn.field-0-is stay (c.in-Ok-GoesOn.ensures.on c.args.self.now.pool.spare (g.I.Source.state c.args.input.now) (g.I.Source.state c.take.new.self) c.args.self.now.pool (g.O.Sink.state c.args.out.now) (v.0 ++ take c.in-Ok.n c.take.new.into) x),
        omega (arith, v.2, length-append v.0 (take c.in-Ok.n c.take.new.into), length-take-le c.in-Ok.n c.take.new.into c.in-Ok.ensures.within),
      );
    }

pub returns-clause-answers : goal.returns-clause-answers
returns-clause-answers g c =
    let v = c.loop.invariant.so_far in
    let few = few_taken _ _ _ _ _ _ _ _ _ _ v.1 in
    absurd (omega (arith, few, v.2, c.loop-test.false))
