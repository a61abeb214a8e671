use Rattle.std.proofs.Common.{subst, ap, sym, ◌∷◌, ◌∙◌}
use Rattle.page_pool.specs.Pool.{cells}
use Rattle.serving.specs.Answering.{Answering}
use Rattle.serving.specs.StationState.{StationState}
use Rattle.serving.proofs.Answered.{ends, passes, prints_on, unprinted}
use Rattle.serving.proofs.session.Station.answer.Goals as goal

pub returns-in-Nothing-clause-on : goal.returns-in-Nothing-clause-on
returns-in-Nothing-clause-on g c = λ spare first now before out0 taken ahead u.
    let v = subst (λ (z : StationState). Answering z.settings spare first now before z.pool z.desk out0 (g.O.Sink.state c.args.out.now) taken (c.args.byte ∷ ahead)) (sym c.self.view_is) u in
    passes _ _ _ _ _ _ _ _ _ _ _ _ _ _ v (c.in-Nothing.ensures.hears _ spare _ v.session v.stands)

pub returns-in-Err : goal.returns-in-Err
returns-in-Err g c = record {
  settings = ap (λ (h : StationState). h.settings) c.self.view_is;
  cells_stay = c.feed-answer.ensures.cells_stay ∙ ap (λ (h : StationState). cells h.pool) c.self.view_is;
  on = λ spare first now before out0 taken ahead u.
      let v = subst (λ (z : StationState). Answering z.settings spare first now before z.pool z.desk out0 (g.O.Sink.state c.args.out.now) taken (c.args.byte ∷ ahead)) (sym c.self.view_is) u in
      unprinted _ _ _ _ _ _ _ _ _ _ _ _ _ _ _ _ _ _ c.answer_line.ensures v (c.feed-answer.ensures.hears _ spare _ v.session v.stands) c.in-Err.ensures;
}

pub returns-in-End : goal.returns-in-End
returns-in-End g c = record {
  settings = ap (λ (h : StationState). h.settings) c.self.view_is;
  cells_stay = c.feed-answer.ensures.cells_stay ∙ ap (λ (h : StationState). cells h.pool) c.self.view_is;
  on = λ spare first now before out0 taken ahead u.
      let v = subst (λ (z : StationState). Answering z.settings spare first now before z.pool z.desk out0 (g.O.Sink.state c.args.out.now) taken (c.args.byte ∷ ahead)) (sym c.self.view_is) u in
      ends _ _ _ _ _ _ _ _ _ _ _ _ _ _ _ _ _ _ c.in-End.is c.answer_line.ensures v (c.feed-answer.ensures.hears _ spare _ v.session v.stands) c.in_default-put.ensures;
}

pub returns : goal.returns
returns g c = record {
  settings = ap (λ (h : StationState). h.settings) c.self.view_is;
  cells_stay = c.feed-answer.ensures.cells_stay ∙ ap (λ (h : StationState). cells h.pool) c.self.view_is;
  on = λ spare first now before out0 taken ahead u.
      let v = subst (λ (z : StationState). Answering z.settings spare first now before z.pool z.desk out0 (g.O.Sink.state c.args.out.now) taken (c.args.byte ∷ ahead)) (sym c.self.view_is) u in
      prints_on _ _ _ _ _ _ _ _ _ _ _ _ _ _ _ _ _ _ c.in_default-answer.not-End c.answer_line.ensures v (c.feed-answer.ensures.hears _ spare _ v.session v.stands) c.in_default-put.ensures;
}
