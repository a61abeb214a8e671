use Rattle.std.proofs.Common.{refl, ◌∙◌}
use Rattle.listening.proofs.Listens.{heard_cut, heard_fed, heard_more, heard_none, heard_prints, not_empty}
use Rattle.listening.proofs.listening.hear_all.Goals as goal

pub loop-rest-init : goal.loop-rest-init
loop-rest-init g c = record {
  same = refl;
  heard = heard_none (g.P.Listener.printed c.args.listener.now) (g.P.Listener.fed c.args.listener.now) c.args.piece (g.O.Sink.state c.args.out.now);
}

pub hear-requires : goal.hear-requires
hear-requires g c = not_empty c.loop-rest.rest c.is_empty.result c.loop-rest-test.true c.is_empty.ensures

pub loop-rest-preserved : goal.loop-rest-preserved
loop-rest-preserved g c =
    let i = c.loop-rest.invariant in
    record {
      same = c.in_default.ensures.same ∙ i.same;
      heard = heard_more _ _ _ _ (g.P.Listener.fed c.hear.new.self) _ c.loop-rest.rest c.hear.new.piece _ _ _ i.same i.heard
          (not_empty c.loop-rest.rest c.is_empty.result c.loop-rest-test.true c.is_empty.ensures) c.in_default.ensures.whole c.in_default.ensures.fed c.in_default.ensures.prints;
    }

pub returns-in-Err-clause-same : goal.returns-in-Err-clause-same
returns-in-Err-clause-same g c = c.in-Err.ensures.same ∙ c.loop-rest.invariant.same

pub returns-in-Err-clause-prints : goal.returns-in-Err-clause-prints
returns-in-Err-clause-prints g c =
    let i = c.loop-rest.invariant in
    heard_cut _ _ _ _ _ c.loop-rest.rest _ _ _ _ i.same i.heard (not_empty c.loop-rest.rest c.is_empty.result c.loop-rest-test.true c.is_empty.ensures) c.in-Err.ensures.prints

pub returns-clause-same : goal.returns-clause-same
returns-clause-same g c = c.loop-rest.invariant.same

pub returns-clause-fed : goal.returns-clause-fed
returns-clause-fed g c = heard_fed _ _ _ _ _ _ _ c.loop-rest.invariant.heard (c.is_empty.ensures.0 c.loop-rest-test.false)

pub returns-clause-prints : goal.returns-clause-prints
returns-clause-prints g c = heard_prints _ _ _ _ _ _ _ c.loop-rest.invariant.heard (c.is_empty.ensures.0 c.loop-rest-test.false)
