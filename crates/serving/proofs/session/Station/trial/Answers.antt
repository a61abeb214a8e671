use Rattle.std.proofs.Common.{ℕ, inl, inr, subst, refl, ap, sym, ◌∙◌}
use Rattle.page_pool.specs.Pool.{cells, pages}
use Rattle.tap_terminal.specs.State.{TerminalState}
use Rattle.serving.specs.Answering.{AnsweredInput, StoppedBroken, StoppedUnprinted}
use Rattle.serving.specs.StationState.{StationState}
use Rattle.serving.specs.Leaves.{HasTried}
use Rattle.serving.specs.Trying.{HearsPages}
use Rattle.endings.specs.declared.statuses.Status.TheVariants.{InputFault, OutFault}
use Rattle.serving.proofs.Trials.{leaves_accepted, live_none, tries_between, tries_broken, tries_heard, tries_unanswered, was_last}
use Rattle.serving.proofs.TriedWell.{tried_well}
use Rattle.serving.proofs.session.Station.trial.Goals as goal

pub returns-in-Err-clause-tries : goal.returns-in-Err-clause-tries
returns-in-Err-clause-tries g c =
    let spare = c.clear.ensures.spare ∙ c.self.invariant.cells_are in
    let answered = subst (λ (n : ℕ). AnsweredInput c.self.inside.settings n (g.I.Source.state c.args.input.now) (g.I.Source.state c.answer_input.new.input) c.clear.new.self c.answer_input.new.self.pool
    c.answer_input.new.self.desk (g.O.Sink.state c.args.out.now) (g.O.Sink.state c.answer_input.new.out)) spare c.in-Answered.ensures.answers in
    subst (λ (h : StationState). HasTried (g.H.Hearing.times c.args.hearing.now) h.settings h.settings.cells (g.H.Hearing.prints c.args.hearing.now) (g.I.Source.state c.args.input.now) (g.I.Source.state c.answer_input.new.input)
    (g.N.BitSource.state c.args.noise.now) (g.N.BitSource.state c.args.noise.now) (g.O.Sink.state c.args.out.now) (g.O.Sink.state c.put.new.self) c.answer_input.new.self.pool c.answer_input.new.self.desk OutFault)
    c.self.view_is
    (record {
      tries = inr (tries_between (g.H.Hearing.times c.args.hearing.now) c.self.inside.settings c.self.inside.settings.cells (g.H.Hearing.prints c.args.hearing.now) _ _ c.clear.new.self c.answer_input.new.self.pool _ _ _ _ _ _ c.in-Err.field-0
          c.requires.silent c.requires.grows refl answered (live_none c.clear.new.self c.clear.ensures.live) c.in-Err.ensures);
      leaves = was_last _ _ _ _ _ _ answered.leaves;
    })

pub returns-clause-tries : goal.returns-clause-tries
returns-clause-tries g c =
    let spare = c.clear.ensures.spare ∙ c.self.invariant.cells_are in
    let answered = subst (λ (n : ℕ). AnsweredInput c.self.inside.settings n (g.I.Source.state c.args.input.now) (g.I.Source.state c.answer_input.new.input) c.clear.new.self c.answer_input.new.self.pool
    c.answer_input.new.self.desk (g.O.Sink.state c.args.out.now) (g.O.Sink.state c.answer_input.new.out)) spare c.in-Answered.ensures.answers in
    subst (λ (h : StationState). HasTried (g.H.Hearing.times c.args.hearing.now) h.settings h.settings.cells (g.H.Hearing.prints c.args.hearing.now) (g.I.Source.state c.args.input.now) (g.I.Source.state c.answer_input.new.input)
    (g.N.BitSource.state c.args.noise.now) (g.N.BitSource.state c.hear_pages.new.noise) (g.O.Sink.state c.args.out.now) (g.O.Sink.state c.hear_pages.new.out) c.hear_pages.new.pool c.self-2.inside.terminal
    c.hear_pages.result) c.self.view_is
    (subst (λ (d : TerminalState). HasTried (g.H.Hearing.times c.args.hearing.now) c.self.inside.settings c.self.inside.settings.cells (g.H.Hearing.prints c.args.hearing.now) (g.I.Source.state c.args.input.now) (g.I.Source.state c.answer_input.new.input)
    (g.N.BitSource.state c.args.noise.now) (g.N.BitSource.state c.hear_pages.new.noise) (g.O.Sink.state c.args.out.now) (g.O.Sink.state c.hear_pages.new.out) c.hear_pages.new.pool d c.hear_pages.result)
    (sym (ap (λ (h : StationState). h.desk) c.self-2.view_is))
    (tries_heard (g.H.Hearing.times c.args.hearing.now) c.self.inside.settings c.self.inside.settings.cells (g.H.Hearing.prints c.args.hearing.now) _ _ c.clear.new.self c.answer_input.new.self.pool c.hear_pages.new.pool _ _ _ _ _ _ _ _ c.in_default.field-0
    c.hear_pages.result c.requires.grows refl answered (live_none c.clear.new.self c.clear.ensures.live) c.in_default.ensures
    (subst (λ (h : StationState). HearsPages (g.H.Hearing.times c.args.hearing.now) (pages h.pool) (g.H.Hearing.prints c.args.hearing.now) (g.N.BitSource.state c.args.noise.now) (g.N.BitSource.state c.hear_pages.new.noise)
    (g.O.Sink.state c.put.new.self) (g.O.Sink.state c.hear_pages.new.out) c.hear_pages.result) c.self-2.view_is c.hear_pages.ensures.hears)
    (record { cells_stay = c.hear_pages.ensures.leaves.cells_stay ∙ ap (λ (h : StationState). cells h.pool) c.self-2.view_is; all = c.hear_pages.ensures.leaves.all })))

pub returns-in-Broken-clause-tries : goal.returns-in-Broken-clause-tries
returns-in-Broken-clause-tries g c =
    let stopped = subst (λ (n : ℕ). StoppedBroken c.self.inside.settings n (g.I.Source.state c.args.input.now) (g.I.Source.state c.answer_input.new.input) c.clear.new.self c.answer_input.new.self.pool c.answer_input.new.self.desk (g.O.Sink.state c.args.out.now) (g.O.Sink.state c.answer_input.new.out))
    (c.clear.ensures.spare ∙ c.self.invariant.cells_are) c.in-Broken.ensures.answers in
    subst (λ (h : StationState). HasTried (g.H.Hearing.times c.args.hearing.now) h.settings h.settings.cells (g.H.Hearing.prints c.args.hearing.now) (g.I.Source.state c.args.input.now) (g.I.Source.state c.answer_input.new.input) (g.N.BitSource.state c.args.noise.now) (g.N.BitSource.state c.args.noise.now) (g.O.Sink.state c.args.out.now) (g.O.Sink.state c.answer_input.new.out) c.answer_input.new.self.pool c.answer_input.new.self.desk InputFault) c.self.view_is
    (record {
      tries = tries_broken _ _ _ _ (g.N.BitSource.state c.args.noise.now) _ _ stopped.broken;
      leaves = leaves_accepted _ _ _ _ _ _ (live_none c.clear.new.self c.clear.ensures.live) stopped.leaves;
    })

pub returns-in-Unprinted-clause-tries : goal.returns-in-Unprinted-clause-tries
returns-in-Unprinted-clause-tries g c =
    let taken = c.in-Unprinted.ensures.answers.0 in
    let stopped = subst (λ (n : ℕ). StoppedUnprinted c.self.inside.settings n (g.I.Source.state c.args.input.now) (g.I.Source.state c.answer_input.new.input) c.clear.new.self c.answer_input.new.self.pool c.answer_input.new.self.desk (g.O.Sink.state c.args.out.now) (g.O.Sink.state c.answer_input.new.out) taken)
    (c.clear.ensures.spare ∙ c.self.invariant.cells_are) c.in-Unprinted.ensures.answers.1 in
    subst (λ (h : StationState). HasTried (g.H.Hearing.times c.args.hearing.now) h.settings h.settings.cells (g.H.Hearing.prints c.args.hearing.now) (g.I.Source.state c.args.input.now) (g.I.Source.state c.answer_input.new.input) (g.N.BitSource.state c.args.noise.now) (g.N.BitSource.state c.args.noise.now) (g.O.Sink.state c.args.out.now) (g.O.Sink.state c.answer_input.new.out) c.answer_input.new.self.pool c.answer_input.new.self.desk OutFault) c.self.view_is
    (record {
      tries = inl (tries_unanswered _ _ _ _ (g.N.BitSource.state c.args.noise.now) _ _ taken stopped.unprinted);
      leaves = leaves_accepted _ _ _ _ _ _ (live_none c.clear.new.self c.clear.ensures.live) stopped.leaves;
    })

pub returns-in-Broken-clause-out_well : goal.returns-in-Broken-clause-out_well
returns-in-Broken-clause-out_well g c =
    tried_well (g.H.Hearing.times c.args.hearing.now) c.args.self.now.settings c.args.self.now.settings.cells (g.H.Hearing.prints c.args.hearing.now) (g.I.Source.state c.args.input.now) (g.I.Source.state c.answer_input.new.input)
    (g.N.BitSource.state c.args.noise.now) (g.N.BitSource.state c.args.noise.now) (g.O.Sink.state c.args.out.now) (g.O.Sink.state c.answer_input.new.out) InputFault (returns-in-Broken-clause-tries g c).tries

pub returns-in-Unprinted-clause-out_well : goal.returns-in-Unprinted-clause-out_well
returns-in-Unprinted-clause-out_well g c =
    tried_well (g.H.Hearing.times c.args.hearing.now) c.args.self.now.settings c.args.self.now.settings.cells (g.H.Hearing.prints c.args.hearing.now) (g.I.Source.state c.args.input.now) (g.I.Source.state c.answer_input.new.input)
    (g.N.BitSource.state c.args.noise.now) (g.N.BitSource.state c.args.noise.now) (g.O.Sink.state c.args.out.now) (g.O.Sink.state c.answer_input.new.out) OutFault (returns-in-Unprinted-clause-tries g c).tries

pub returns-in-Err-clause-out_well : goal.returns-in-Err-clause-out_well
returns-in-Err-clause-out_well g c =
    tried_well (g.H.Hearing.times c.args.hearing.now) c.args.self.now.settings c.args.self.now.settings.cells (g.H.Hearing.prints c.args.hearing.now) (g.I.Source.state c.args.input.now) (g.I.Source.state c.answer_input.new.input)
    (g.N.BitSource.state c.args.noise.now) (g.N.BitSource.state c.args.noise.now) (g.O.Sink.state c.args.out.now) (g.O.Sink.state c.put.new.self) OutFault (returns-in-Err-clause-tries g c).tries

pub returns-clause-out_well : goal.returns-clause-out_well
returns-clause-out_well g c =
    tried_well (g.H.Hearing.times c.args.hearing.now) c.args.self.now.settings c.args.self.now.settings.cells (g.H.Hearing.prints c.args.hearing.now) (g.I.Source.state c.args.input.now) (g.I.Source.state c.answer_input.new.input)
    (g.N.BitSource.state c.args.noise.now) (g.N.BitSource.state c.hear_pages.new.noise) (g.O.Sink.state c.args.out.now) (g.O.Sink.state c.hear_pages.new.out) c.hear_pages.result (returns-clause-tries g c).tries
