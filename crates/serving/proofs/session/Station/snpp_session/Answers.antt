use Rattle.std.proofs.Common.{subst}
use Rattle.serving.specs.Protocols.{snpp}
use Rattle.serving.specs.Sessions.{Ran}
use Rattle.serving.specs.StationState.{StationState}
use Rattle.serving.proofs.session.Station.snpp_session.Goals as goal

pub returns-clause-ran : goal.returns-clause-ran
returns-clause-ran g c = (
  c.session_on.new.entry,
  subst (λ (h : StationState). Ran snpp h.settings h.pool.spare (g.W.Wire.state c.args.wire.now) (g.W.Wire.state c.session_on.new.wire) h.pool c.session_on.new.pool c.session_on.new.entry c.session_on.result) c.self.view_is c.session_on.ensures.ran,
)
